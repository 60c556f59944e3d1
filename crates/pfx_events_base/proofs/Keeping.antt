-- What a disk keeps by calls that lead from one file to another.
use Rattle.std.proofs.Common.{◌≡◌, ⊎_elim, ℕ, ◌+◌, ◌≤◌, ◌<◌, List, [], ◌∷◌, ◌++◌, length, refl, subst, sym, ap, arith, false}
use Rattle.std.specs.Prelude.{if◌then◌else◌}
use Rattle.pfx_events_acts.specs.Files.{IsFile, IsWhole}
use Rattle.pfx_events_acts.proofs.Chains.{Safe, Steady, safe_at}
use Rattle.pfx_events_base.specs.Bases.{HasBase, IsBased, IsNextFrame, IsOn, KeepsBase, Spells, turn_number}
use Rattle.pfx_events_base.proofs.Acting.{Goes, append_goes, tend_goes, turn_goes}
use Rattle.pfx_events_base.proofs.Bounded.{base_low, file_down, file_up, spells_up, up_to, whole_down, whole_up}
use Rattle.pfx_disk.specs.CallsMade.{HasKeptTo, HasMade}
use Rattle.pfx_disk.specs.Disk.{View}
use Rattle.pfx_disk.specs.Stop.{Act, contents_after, Left}
use Rattle.pfx_disk.specs.declared.gates.TheConstants.{GATE_OPEN}
use Rattle.pfx_store_image.specs.Codec.{Codec, Laws}
use Rattle.pfx_store_file.specs.Acts.{append_acts, appended_file, ended_file, has_room, tend_acts, tended_file, turn_acts, turned_file}
use Rattle.pfx_store_file.specs.Files.{File}
use Rattle.pfx_store_file.specs.Holding.{IsStart}
use Rattle.pfx_store_file.proofs.Ends.{by_if₂, tended_kept}

module _ {H S : Type 0} (K : Codec H S) (laws : Laws K) (f g : File H S) (s t : S) (spelling next : List ℕ) (calls : List Act) (old new : View)
    (goes : (most : ℕ) → turn_number K f ≤ most → Goes K laws most f s spelling calls g t next) (on : IsOn K f spelling s old) where
  low : (most : ℕ) → turn_number K f ≤ most → K.number f.parts.base ≤ most
  low most above = let least = base_low K f.head (contents_after on.start on.done) f.parts s on.read.file.store in omega (arith, above, least)

  steady : (most : ℕ) → turn_number K f ≤ most → Steady (IsFile (up_to K most) s f) (IsWhole (up_to K most) spelling s f) on.start on.done
  steady most above = record {
    whole = whole_up K most spelling f s (contents_after on.start on.done) (low most above) on.read;
    each = λ image left. file_up K most f s image (low most above) (on.each image left);
  }

  during : HasKeptTo calls old new → (most : ℕ) → turn_number K f ≤ most → KeepsBase K most old new
  during within most above c past before image since = ⊎_elim
      (λ was. before image was)
      (λ among. safe_at (IsBased K most) on.start on.done among.0 among.1
      (subst (λ (l : List Act). Safe (IsBased K most) on.start on.done l) (sym among.2) ((goes most above).safe on.start on.done (steady most above))) image among.3)
      (within on.start on.done on.after c image past since)

  then_on : HasMade calls old new → IsOn K g next t new
  then_on made =
      let ends = (goes (turn_number K f) (omega arith)).ends on.start on.done (steady (turn_number K f) (omega arith)) in
      record {
        start = on.start;
        done = on.done ++ calls;
        after = made on.start on.done on.after;
        read = whole_down K (turn_number K f) next g t (contents_after on.start (on.done ++ calls)) ends.whole;
        each = λ image left. file_down K (turn_number K f) g t image (ends.each image left);
      }

  pub has_base : HasBase K (turn_number K f) calls old new (IsOn K g next t new)
  has_base = record { during = during; then = then_on }

module _ {H S : Type 0} (K : Codec H S) (laws : Laws K) (f : File H S) (s : S) (old new : View) where
  -- a step of the checkpoint in progress
  pub tend_base : (spelling : List ℕ) → Spells K f spelling → IsOn K f spelling s old → HasBase K (turn_number K f) (tend_acts K f spelling) old new (IsOn K (tended_file K f) spelling s new)
  tend_base spelling spells on = has_base K laws f (tended_file K f) s s spelling spelling (tend_acts K f spelling) old new (λ most above. tend_goes K laws most f s spelling (spells_up K most f spelling above spells)) on

  -- a turn
  pub turn_base : (spelling start next : List ℕ) → f.parts.turned ≡ false → 0 < length f.parts.frames → IsStart K (K.number s + 1) start → IsOn K f spelling s old
      → HasBase K (turn_number K f) (turn_acts K f start) old new (IsOn K (turned_file K f s) next s new)
  turn_base spelling start next single some starts on =
      has_base K laws f (turned_file K f s) s s spelling next (turn_acts K f start) old new (λ most above. turn_goes K laws most f s spelling next start single some starts) on

  -- an append
  module _ (t : S) (body start : List ℕ) (spell : S → List ℕ) where
    abbrev g : File H S
    g = appended_file K f s (body ++ 0 ∷ []) (GATE_OPEN ∷ body)

    pub append_base : IsNextFrame K f s body start t → Spells K f (spell f.parts.middle) → IsOn K f (spell f.parts.middle) s old
        → HasBase K (turn_number K f) (append_acts K f s (spell f.parts.middle) start (body ++ 0 ∷ [])) old new
        (IsOn K (appended_file K f s (body ++ 0 ∷ []) (GATE_OPEN ∷ body)) (spell (appended_file K f s (body ++ 0 ∷ []) (GATE_OPEN ∷ body)).parts.middle) t new)
    append_base next spells on = has_base K laws f g s t (spell f.parts.middle) (spell g.parts.middle) (append_acts K f s (spell f.parts.middle) start (body ++ 0 ∷ [])) old new
        (λ most above. append_goes K laws most s t body next.frame next.leads f spell start (spells_up K most f (spell f.parts.middle) above spells) next.starts next.small) on

-- the number of the last turn, after an act
pub tend_number : {H S : Type 0} (K : Codec H S) (f : File H S) → turn_number K (tended_file K f) ≡ turn_number K f
tend_number K f = ap K.number (tended_kept K f).middle

pub append_number : {H S : Type 0} (K : Codec H S) (f : File H S) (s : S) (bytes frame : List ℕ) → turn_number K (appended_file K f s bytes frame) ≡ (if has_room K f (length bytes) then turn_number K f else K.number s)
append_number K f s bytes frame =
    by_if₂ (λ h n. K.number h.parts.middle ≡ n) (has_room K f (length bytes)) f (turned_file K (ended_file K f) s) (turn_number K f) (K.number s) (λ room. refl) (λ none. refl)
