-- Rows that show what the table and the line mean.
use Rattle.std.proofs.Common.{◌≡◌, codes, refl}
use Rattle.std.specs.Fmt.{digits}
use Rattle.pfx_fault.specs.declared.fields.Part.TheVariants as part
use Rattle.pfx_fault.specs.declared.fields.Cause.TheVariants as cause
use Rattle.pfx_fault.specs.declared.refusals.Fault.TheVariants as fault
use Rattle.pfx_fault.specs.Refusals.{status_of}
use Rattle.pfx_fault.specs.Line.{fault_text, fault_line, refused_text}

pub no_field : fault_line fault.BadSet ≡ codes "pfx: error 10 BadSet\n"
unfolding digits
no_field = refl

pub one_field : fault_line (fault.BadWeight 2) ≡ codes "pfx: error 14 BadWeight task=2\n"
unfolding digits
one_field = refl

pub two_fields : fault_text (fault.TooFewEligible 1 64) ≡ codes "22 TooFewEligible eligible=1 m=64"
unfolding digits
two_fields = refl

pub a_part : fault_text (fault.Damaged 906 part.Frame) ≡ codes "52 Damaged at=906 what=Frame"
unfolding digits
a_part = refl

pub a_cause : fault_text (fault.StoreFailed 4 cause.Device) ≡ codes "61 StoreFailed marked=4 cause=Device"
unfolding digits
a_cause = refl

pub a_command : refused_text (fault.TaskBusy 0) ≡ codes "refused 32 TaskBusy task=0"
unfolding digits
a_command = refl

pub a_set_ends_with_3 : status_of fault.Overload ≡ 3
a_set_ends_with_3 = refl

pub a_plan_ends_with_3 : status_of fault.BadLedger ≡ 3
a_plan_ends_with_3 = refl

pub a_store_ends_with_4 : status_of fault.NotAStore ≡ 4
a_store_ends_with_4 = refl

pub a_full_session_ends_with_4 : status_of fault.SessionFull ≡ 4
a_full_session_ends_with_4 = refl

pub a_missing_thread_ends_with_4 : status_of fault.NoThread ≡ 4
a_missing_thread_ends_with_4 = refl

pub a_script_ends_with_7 : status_of (fault.BadScript 1) ≡ 7
a_script_ends_with_7 = refl

pub input_ends_with_8 : status_of fault.InputFailed ≡ 8
input_ends_with_8 = refl

pub output_ends_with_8 : status_of fault.OutputFailed ≡ 8
output_ends_with_8 = refl

pub memory_ends_with_5 : status_of fault.NoMemory ≡ 5
memory_ends_with_5 = refl

pub a_log_ends_with_4 : status_of (fault.LogGap 3 8) ≡ 4
a_log_ends_with_4 = refl

pub a_gap : fault_text (fault.LogGap 3 8) ≡ codes "74 LogGap log=3 file=8"
unfolding digits
a_gap = refl
