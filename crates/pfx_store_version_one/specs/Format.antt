-- The format of a store's file, version 1, which is read to be copied: what the bytes of its parts stand for. A store's weights were
-- never changed then, and a checkpoint area has no set: it is the header's.
use Rattle.std.specs.Prelude.{◌≡◌, ℕ, max, List, Option}
use Rattle.std.proofs.Common.{arith}
use Rattle.std.proofs.Math.Nat.{le-max_left}
use Rattle.byteorder.specs.Endian.{little_number}
use Rattle.pfx_checkpoint.specs.Found.{number_at, read_state}
use Rattle.pfx_checkpoint.specs.Spelling.{state_len}
use Rattle.pfx_checkpoint.specs.Whole.{if_some}
use Rattle.pfx_store_format.specs.Batches.{batch_in}
use Rattle.pfx_store_format.specs.Frames.{number_after}
use Rattle.pfx_store_header.specs.Headers.{Header, header_len, read_header}
use Rattle.pfx_jobs.specs.Kind.{Kind}
use Rattle.pfx_machine.specs.Plain.{Plain}
use Rattle.pfx_store_image.specs.Codec.{Codec}
use Rattle.pfx_store_image.specs.Layout.{Layout}
use Rattle.pfx_record_redo.specs.Applying.{applied}

-- the version that a header tells
abbrev pub old_version : ℕ
old_version = 1

-- Where the parts of a file with this header lie.
abbrev pub layout_1 : Header → Layout
layout_1 h = record { head = header_len h.set; body = state_len h.set; segment = max 10 h.segment; room = omega (arith, le-max_left 10 h.segment) }

-- the state after a frame's records: new weights have no spelling there, as no task is said to be real
unfoldable pub state_after_1 : {J : Type 0} → Kind J → Plain J → List ℕ → Option (Plain J)
state_after_1 K s frame = if_some (number_after s.number frame) (λ last. if_some (batch_in K s.ledger.set.workers 0 frame) (λ batch. applied K s batch.records))

abbrev pub format_1 : {J : Type 0} → Kind J → Codec Header (Plain J)
format_1 K = record {
  read_head = read_header old_version;
  layout = layout_1;
  area_number = number_at 0;
  read_state = λ h bytes. read_state K 0 h.segment h.set bytes;
  number = λ s. s.number;
  segment_number = little_number 8;
  after = number_after;
  apply = state_after_1 K;
}

-- The state is of a store with this header: the header's set is in force from the first slot on.
pub record IsOf {J : Type 0} (h : Header) (s : Plain J) : Type 0 where
  pub set : s.ledger.set ≡ h.set
  pub from : s.from ≡ 0
  pub segment : s.segment ≡ h.segment
