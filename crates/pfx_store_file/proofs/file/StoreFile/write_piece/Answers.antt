use Rattle.std.proofs.Common.{rules}
use Rattle.std.proofs.Common.{◌≡◌, ◌∙◌, ◌+◌, ◌-◌, ◌≤◌, ap, not, sym, ℕ, List, take, drop, refl, arith}
use Rattle.std.proofs.Common.{[], ◌∷◌, subst}
use Rattle.pfx_disk.specs.Stop.{Write}
use Rattle.pfx_disk.specs.CallsMade.{HasMade, HasBrokenOff, HasKeptTo}
use Rattle.pfx_disk.proofs.CallsMade.{write_made, write_broken, write_within}
use Rattle.pfx_store_file.specs.Checkpoints.{in_progress, written}
use Rattle.pfx_store_file.specs.Files.{area_of}
use Rattle.pfx_store_image.specs.Layout.{area_at}
use Rattle.pfx_store_file.specs.declared.progress.Checkpoint.TheVariants.{Writing}
use Rattle.pfx_store_file.proofs.Keeping.{piece_keeps, piece_holds}
use Rattle.pfx_store_file.proofs.file.StoreFile.write_piece.Goals as goal

same_piece : (done n : ℕ) (l : List ℕ) → take (done + n - done) (drop done l) ≡ take n (drop done l)
same_piece done n l = ap (λ (k : ℕ). take k (drop done l)) (less done n)
  where
    less : (done n : ℕ) → done + n - done ≡ n
    less done n = omega arith

pub returns-in_err-write_at-clause-keeps : goal.returns-in_err-write_at-clause-keeps
returns-in_err-write_at-clause-keeps g c K laws h p s holds =
    let view = g.D.Disk.view in
    let old = c.args.self.now in
    let at_is : c.area_at-at.result ≡ area_at (K.layout h) (not p.area) = c.area_at-at.ensures.at (K.layout h) holds.fits ∙ ap (λ b. area_at (K.layout h) (not b)) holds.area in
    let spelling = c.args.spelling.now in
    let piece = take (c.args.done + c.args.n - c.args.done) (drop c.args.done spelling) in
    let fits : c.args.done + c.args.n ≤ (K.layout h).body = omega (arith, c.requires.piece.fits, holds.fits.body) in
    record {
      holds = search rules;
      keeps = λ start all run. piece_keeps K laws h old.places p s spelling (view old.disk) holds c.area_at-at.result at_is piece c.args.done c.args.n c.requires.piece.some fits (holds.begun c.args.done c.requires.piece.writing) (same_piece c.args.done c.args.n spelling) (view c.write_at.new.self) (c.write_at.ensures.leaves holds.honest) start all run;
    }

pub returns-clause-keeps : goal.returns-clause-keeps
returns-clause-keeps g c K laws h p s holds =
    let view = g.D.Disk.view in
    let old = c.args.self.now in
    let at_is : c.area_at-at.result ≡ area_at (K.layout h) (not p.area) = c.area_at-at.ensures.at (K.layout h) holds.fits ∙ ap (λ b. area_at (K.layout h) (not b)) holds.area in
    let spelling = c.args.spelling.now in
    let piece = take (c.args.done + c.args.n - c.args.done) (drop c.args.done spelling) in
    let fits : c.args.done + c.args.n ≤ (K.layout h).body = omega (arith, c.requires.piece.fits, holds.fits.body) in
    record {
      holds = piece_holds K laws h old.places p s spelling (view old.disk) holds c.area_at-at.result at_is piece c.args.done c.args.n c.requires.piece.some fits (holds.begun c.args.done c.requires.piece.writing) (same_piece c.args.done c.args.n spelling) (view c.write_at.new.self) (c.write_at.ensures.leaves holds.honest) (c.in_ok-write_at.ensures.written holds.honest) _ holds.fits refl refl refl refl refl refl refl;
      keeps = λ start all run. piece_keeps K laws h old.places p s spelling (view old.disk) holds c.area_at-at.result at_is piece c.args.done c.args.n c.requires.piece.some fits (holds.begun c.args.done c.requires.piece.writing) (same_piece c.args.done c.args.n spelling) (view c.write_at.new.self) (c.write_at.ensures.leaves holds.honest) start all run;
    }

pub returns-in_err-write_at-clause-acts : goal.returns-in_err-write_at-clause-acts
returns-in_err-write_at-clause-acts g c K f are honest =
    let view = g.D.Disk.view in
    let a = view c.args.self.now.disk in
    let b = view c.write_at.new.self in
    let at_is : c.area_at-at.result ≡ area_of K f = c.area_at-at.ensures.at (K.layout f.head) are.are.fits ∙ ap (λ b. area_at (K.layout f.head) (not b)) are.are.area in
    let spelling = c.args.spelling.now in
    let done = c.args.done in
    let is : c.args.done ≡ written f.checkpoint = ap written (sym c.requires.piece.writing ∙ are.checkpoint) in
    let n = c.args.n in
    let piece = take (done + n - done) (drop done spelling) in
    let place : c.area_at-at.result + 1 + done ≡ area_of K f + 1 + written f.checkpoint = omega (arith, at_is, is) in
    let bytes : piece ≡ take n (drop (written f.checkpoint) spelling) = same_piece done n spelling ∙ ap (λ (k : ℕ). take n (drop k spelling)) is in
    let l = c.write_at.ensures.leaves honest in
    record {
      made = search rules;
      broken_off = λ is. subst (λ (k : ℕ). HasBrokenOff (Write k (take n (drop (written f.checkpoint) spelling)) ∷ []) a b) place (subst (λ (l : List ℕ). HasBrokenOff (Write (c.area_at-at.result + 1 + done) l ∷ []) a b) bytes (write_broken a b (c.area_at-at.result + 1 + done) piece l));
      between = subst (λ (k : ℕ). HasKeptTo (Write k (take n (drop (written f.checkpoint) spelling)) ∷ []) a b) place (subst (λ (l : List ℕ). HasKeptTo (Write (c.area_at-at.result + 1 + done) l ∷ []) a b) bytes (write_within a b (c.area_at-at.result + 1 + done) piece l));
    }

pub returns-clause-acts : goal.returns-clause-acts
returns-clause-acts g c K f are honest =
    let view = g.D.Disk.view in
    let a = view c.args.self.now.disk in
    let b = view c.write_at.new.self in
    let at_is : c.area_at-at.result ≡ area_of K f = c.area_at-at.ensures.at (K.layout f.head) are.are.fits ∙ ap (λ b. area_at (K.layout f.head) (not b)) are.are.area in
    let spelling = c.args.spelling.now in
    let done = c.args.done in
    let is : c.args.done ≡ written f.checkpoint = ap written (sym c.requires.piece.writing ∙ are.checkpoint) in
    let n = c.args.n in
    let piece = take (done + n - done) (drop done spelling) in
    let place : c.area_at-at.result + 1 + done ≡ area_of K f + 1 + written f.checkpoint = omega (arith, at_is, is) in
    let bytes : piece ≡ take n (drop (written f.checkpoint) spelling) = same_piece done n spelling ∙ ap (λ (k : ℕ). take n (drop k spelling)) is in
    let l = c.write_at.ensures.leaves honest in
    record {
      made = subst (λ (k : ℕ). HasMade (Write k (take n (drop (written f.checkpoint) spelling)) ∷ []) a b) place (subst (λ (l : List ℕ). HasMade (Write (c.area_at-at.result + 1 + done) l ∷ []) a b) bytes (write_made a b (c.area_at-at.result + 1 + done) piece l (omega (arith, c.args.self.now.inside honest, c.area_at-at.ensures.inside, c.requires.piece.fits)) (c.in_ok-write_at.ensures.written honest)));
      broken_off = search rules;
      between = subst (λ (k : ℕ). HasKeptTo (Write k (take n (drop (written f.checkpoint) spelling)) ∷ []) a b) place (subst (λ (l : List ℕ). HasKeptTo (Write (c.area_at-at.result + 1 + done) l ∷ []) a b) bytes (write_within a b (c.area_at-at.result + 1 + done) piece l));
    }

pub returns-clause-file : goal.returns-clause-file
returns-clause-file g c K f are =
    record {
      are = record {
        fits = are.are.fits;
        area = are.are.area;
        segment = are.are.segment;
        turned = sym (ap in_progress c.requires.piece.writing) ∙ are.are.turned;
        gate = are.are.gate;
        end = are.are.end;
      };
      area_open = are.area_open;
      segment_open = are.segment_open;
      checkpoint = ap (λ (k : ℕ). Writing (k + c.args.n)) (ap written (sym c.requires.piece.writing ∙ are.checkpoint));
    }
