-- The format of a store's file, version 2: what the bytes of its parts stand for.
use Rattle.std.specs.Prelude.{◌≡◌, ◌≤◌, max}
use Rattle.std.proofs.Common.{arith}
use Rattle.std.proofs.Math.Nat.{le-max_left}
use Rattle.byteorder.specs.Endian.{little_number}
use Rattle.pfx_checkpoint.specs.Found.{number_at}
use Rattle.pfx_checkpoint.specs.Whole.{whole_len}
use Rattle.pfx_store_header.specs.Headers.{Header, header_len, least_segment, read_header, this_version}
use Rattle.pfx_jobs.specs.Kind.{Kind}
use Rattle.pfx_machine.specs.Plain.{Plain}
use Rattle.pfx_store_image.specs.Codec.{Codec}
use Rattle.pfx_store_image.specs.Layout.{Layout}
use Rattle.pfx_store_format.specs.Areas.{read_area}
use Rattle.pfx_store_format.specs.Frames.{number_after, state_after}

-- Where the parts of a file with this header lie. A layout asks for more room in a segment than its head takes, which
-- each segment of a header has.
abbrev pub layout : Header → Layout
layout h = record {
  head = header_len h.set;
  body = whole_len h.set.real;
  segment = max 10 h.segment;
  room = omega (arith, le-max_left 10 h.segment);
}

-- what the bytes of a file's parts stand for
abbrev pub format : {J : Type 0} → Kind J → Codec Header (Plain J)
format K = record {
  read_head = read_header this_version;
  layout = layout;
  area_number = number_at 0;
  read_state = read_area K;
  number = λ s. s.number;
  segment_number = little_number 8;
  after = number_after;
  apply = state_after K;
}

-- The state is of a store with this header: it has as many real tasks as the header's set, and its length of segments, in which the longest
-- batch of its workers has room. Its set may have come into force later than the header's.
pub record IsOf {J : Type 0} (h : Header) (s : Plain J) : Type 0 where
  pub real : s.ledger.set.real ≡ h.set.real
  pub segment : s.segment ≡ h.segment
  pub room : least_segment s.ledger.set.workers ≤ h.segment
