-- A word that names no fault of the tables names none.
use Rattle.std.proofs.Common.{◌≡◌, ℕ, List, [], ◌∷◌, false, suc, All, arith, Option, Some, None}
use Rattle.std.specs.Option.{IfNone}
use Rattle.pfx_fault.specs.declared.fields.Cause.TheVariants as cause
use Rattle.pfx_fault.specs.declared.fields.Part.TheVariants as part
use Rattle.pfx_fault.specs.declared.refusals.Fault.{Fault}
use Rattle.pfx_fault.specs.declared.refusals.Fault.TheVariants as fault
use Rattle.pfx_program_explain.specs.Explaining.{AreSpared, faults_of, names}
use Rattle.pfx_program_explain.specs.declared.entries.Entry.{Entry}

-- what holds if there is no value
pub if_none : {T : Type 0} (o : Option T) {P Q : Type 0} → (P → Q) → IfNone o P → IfNone o Q
if_none None f h = f h
if_none (Some x) f h = h

pub spared : (w : List ℕ) (es : List Entry) → All (λ e. names w e.fault ≡ false) es → AreSpared w (faults_of es)
spared w [] h = tt
spared w (e ∷ es) h = (h 0 e (omega arith), spared w es (λ k d lt. h (suc k) d (omega arith)))

-- the faults of the three tables
abbrev pub set_faults : List Fault
set_faults =
    fault.BadSet ∷ fault.NoTasks ∷ fault.TooManyTasks ∷ fault.BadWorkers ∷ fault.BadWeight 2 ∷ fault.HyperperiodTooLarge 2 ∷ fault.Overload ∷ fault.SegmentTooSmall 4233 ∷ fault.SegmentTooLarge ∷ fault.TooManyUrgent 2 1 ∷ fault.TooFewEligible 1 2 ∷ fault.SlotLimit ∷ fault.OutOfRange 0 ∷ fault.WrongSum ∷ fault.BadLedger ∷ []

abbrev pub store_faults : List Fault
store_faults =
    fault.NoSuchTask 9 ∷ fault.TaskBusy 0 ∷ fault.NoJob 0 ∷ fault.NumberLimit ∷ fault.NotLevel 0 ∷ fault.WrongCount ∷ fault.BadKind ∷ fault.BadGoal ∷ fault.BadData ∷ fault.NotNext 0 ∷ fault.NotAStore ∷ fault.Damaged 2097782 part.Length ∷ fault.Device ∷ fault.Broken ∷ fault.WrongVersion 5 ∷ fault.NotEmpty ∷ fault.NoRoom ∷ fault.Busy ∷ fault.StoreFailed 7 cause.Device ∷ fault.SessionFull ∷ []

abbrev pub run_faults : List Fault
run_faults =
    fault.NoThread ∷ fault.BadScript 2 ∷ fault.InputFailed ∷ fault.OutputFailed ∷ fault.LogGap 40 97 ∷ fault.NotALog ∷ fault.LogDamaged 4205 ∷ fault.WrongLogVersion 2 ∷ fault.NoMemory ∷ []

pub none_named : (w : List ℕ) → AreSpared w set_faults → AreSpared w store_faults → AreSpared w run_faults → (f : Fault) → names w f ≡ false
none_named w a b c fault.BadSet = a.0
none_named w a b c fault.NoTasks = a.1.0
none_named w a b c fault.TooManyTasks = a.1.1.0
none_named w a b c fault.BadWorkers = a.1.1.1.0
none_named w a b c (fault.BadWeight x) = a.1.1.1.1.0
none_named w a b c (fault.HyperperiodTooLarge x) = a.1.1.1.1.1.0
none_named w a b c fault.Overload = a.1.1.1.1.1.1.0
none_named w a b c (fault.SegmentTooSmall x) = a.1.1.1.1.1.1.1.0
none_named w a b c fault.SegmentTooLarge = a.1.1.1.1.1.1.1.1.0
none_named w a b c (fault.TooManyUrgent x y) = a.1.1.1.1.1.1.1.1.1.0
none_named w a b c (fault.TooFewEligible x y) = a.1.1.1.1.1.1.1.1.1.1.0
none_named w a b c fault.SlotLimit = a.1.1.1.1.1.1.1.1.1.1.1.0
none_named w a b c (fault.OutOfRange x) = a.1.1.1.1.1.1.1.1.1.1.1.1.0
none_named w a b c fault.WrongSum = a.1.1.1.1.1.1.1.1.1.1.1.1.1.0
none_named w a b c fault.BadLedger = a.1.1.1.1.1.1.1.1.1.1.1.1.1.1.0
none_named w a b c (fault.NoSuchTask x) = b.0
none_named w a b c (fault.TaskBusy x) = b.1.0
none_named w a b c (fault.NoJob x) = b.1.1.0
none_named w a b c fault.NumberLimit = b.1.1.1.0
none_named w a b c (fault.NotLevel x) = b.1.1.1.1.0
none_named w a b c fault.WrongCount = b.1.1.1.1.1.0
none_named w a b c fault.BadKind = b.1.1.1.1.1.1.0
none_named w a b c fault.BadGoal = b.1.1.1.1.1.1.1.0
none_named w a b c fault.BadData = b.1.1.1.1.1.1.1.1.0
none_named w a b c (fault.NotNext x) = b.1.1.1.1.1.1.1.1.1.0
none_named w a b c fault.NotAStore = b.1.1.1.1.1.1.1.1.1.1.0
none_named w a b c (fault.Damaged x y) = b.1.1.1.1.1.1.1.1.1.1.1.0
none_named w a b c fault.Device = b.1.1.1.1.1.1.1.1.1.1.1.1.0
none_named w a b c fault.Broken = b.1.1.1.1.1.1.1.1.1.1.1.1.1.0
none_named w a b c (fault.WrongVersion x) = b.1.1.1.1.1.1.1.1.1.1.1.1.1.1.0
none_named w a b c fault.NotEmpty = b.1.1.1.1.1.1.1.1.1.1.1.1.1.1.1.0
none_named w a b c fault.NoRoom = b.1.1.1.1.1.1.1.1.1.1.1.1.1.1.1.1.0
none_named w a b c fault.Busy = b.1.1.1.1.1.1.1.1.1.1.1.1.1.1.1.1.1.0
none_named w a b c (fault.StoreFailed x y) = b.1.1.1.1.1.1.1.1.1.1.1.1.1.1.1.1.1.1.0
none_named w a b c fault.SessionFull = b.1.1.1.1.1.1.1.1.1.1.1.1.1.1.1.1.1.1.1.0
none_named w a b c fault.NoThread = c.0
none_named w a b c (fault.BadScript x) = c.1.0
none_named w a b c fault.InputFailed = c.1.1.0
none_named w a b c fault.OutputFailed = c.1.1.1.0
none_named w a b c (fault.LogGap x y) = c.1.1.1.1.0
none_named w a b c fault.NotALog = c.1.1.1.1.1.0
none_named w a b c (fault.LogDamaged x) = c.1.1.1.1.1.1.0
none_named w a b c (fault.WrongLogVersion x) = c.1.1.1.1.1.1.1.0
none_named w a b c fault.NoMemory = c.1.1.1.1.1.1.1.1.0
