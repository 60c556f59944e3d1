use Rattle.std.proofs.Common.{◌≡◌, ◌+◌, ◌*◌, take}
use Rattle.pfx_disk.specs.Disk.{IsHonest, Leaves}
use Rattle.pfx_store_image.specs.Layout.{Layout}
use Rattle.pfx_store_image.specs.NewFile.{new_file}
use Rattle.pfx_store_create.specs.Creating.{HasLengths, StaysClosed, unopened}
use Rattle.pfx_store_file.specs.declared.checkpoint.TheConstants.{PIECE}
use Rattle.pfx_store_create.proofs.pieces.write_pieces.Given as goal

abbrev pub invariant-loop-i : goal.invariant-loop-i
invariant-loop-i g l =
    let old = g.D.Disk.view l.fn.disk in
    let now = g.D.Disk.view l.disk in
    record {
      clock : now.clock ≡ old.clock + l.i;
      failures : now.failures ≡ old.failures;
      honest : IsHonest now → IsHonest old;
      leaves : IsHonest old → Leaves StaysClosed old now;
      written : IsHonest old → (L : Layout) → HasLengths L l.head l.body l.segment → now.contents ≡ take (1 + l.i * PIECE) (unopened (new_file L l.head l.body l.first));
    }
