-- The bodies of checkpoint areas.
use Rattle.std.specs.Prelude.{◌≡◌, ℕ, List, length, Some}
use Rattle.std.proofs.Common.{◌∙◌, ap}
use Rattle.pfx_checkpoint.specs.Whole.{whole_bytes, whole_len}
use Rattle.pfx_checkpoint.proofs.Wholes.{whole_long}
use Rattle.pfx_store_format.specs.Areas.{read_area}
use Rattle.pfx_store_format.specs.Format.{IsOf}
use Rattle.pfx_store_format.proofs.Keeping.{area_read}
use Rattle.pfx_store_header.specs.Headers.{Header}
use Rattle.pfx_jobs.specs.Kind.{Kind, Laws}
use Rattle.pfx_machine.specs.Plain.{Plain, IsState}

-- the bytes of a state with its set are as many as its real tasks say
pub spelled_long : {J : Type 0} (K : Kind J) (L : Laws K) (s : Plain J) → IsState s → length (whole_bytes K s) ≡ whole_len s.ledger.set.real
spelled_long K L s state = whole_long K L s state

-- a frozen state of the header is read
pub spelled_read : {J : Type 0} (K : Kind J) (L : Laws K) (h : Header) (s : Plain J) (bytes : List ℕ) → IsState s → IsOf h s → bytes ≡ whole_bytes K s → read_area K h bytes ≡ Some s
spelled_read K L h s bytes state of is = ap (read_area K h) is ∙ area_read K L h s state of
