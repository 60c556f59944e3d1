-- What a log has kept of frames, as they become more and as blocks do.
use Rattle.std.proofs.Common.{◌≡◌, ℕ, ◌≤◌, List, [], ◌∷◌, ◌++◌, length, take, drop, refl, sym, ◌∙◌, ap, subst, arith, length-append, Some}
use Rattle.std.proofs.Math.Seq.{drop-length}
use Rattle.std.proofs.lemmas.List.{take_all, take-append-drop, take-append-le, drop-append-le}
use Rattle.pfx_store_format.specs.Format.{format}
use Rattle.pfx_store_format.specs.Frames.{state_after}
use Rattle.pfx_store_format.proofs.Keeping.{format_laws}
use Rattle.pfx_jobs.specs.Kind.{Kind, Laws}
use Rattle.pfx_log.specs.Logs.{Log, block_of, last_number, with_block}
use Rattle.pfx_log.proofs.More.{last_number_more}
use Rattle.pfx_machine.specs.Plain.{Plain}
use Rattle.pfx_store_image.specs.Store.{Replays}
use Rattle.pfx_store_image.proofs.Runs.{replays_one}
use Rattle.pfx_log_store.specs.Covering.{HasKept, frames_in, in_a_row}
use Rattle.pfx_log_store.specs.Working.{IsKeptUpTo}
use Rattle.pfx_log_store.proofs.Rows.{blocks_one, none_behind, replays_joined, row_more, row_one}

module _ {J : Type 0} (K : Kind J) (L : Laws K) (start : Plain J) (all : List (List ℕ)) (log : Log) where
  -- a frame more
  pub has_kept_more : (frame : List ℕ) (kept : ℕ) (behind : Plain J) → HasKept K start all kept behind log → HasKept K start (all ++ frame ∷ []) kept behind log
  has_kept_more frame kept behind has =
      let same = take-append-le kept all (frame ∷ []) has.few in
      record {
        few = (let few = has.few in omega (arith, few, length-append all (frame ∷ [])));
        frames = has.frames ∙ ap in_a_row (sym same);
        leads = subst (λ l. Replays (format K) start l behind) (sym same) has.leads;
        number = has.number;
      }

  -- the same of what is the same
  abbrev pub kept_as : (copy more : List ℕ) (s t : Plain J) → more ≡ copy → t ≡ s → IsKeptUpTo K start all log copy s → IsKeptUpTo K start all log more t
  kept_as copy more s t same at is = record {
    kept = is.kept;
    behind = is.behind;
    keeps = is.keeps;
    copied = same ∙ is.copied;
    leads = subst (λ u. Replays (format K) is.behind (drop is.kept all) u) (sym at) is.leads;
  }

  module _ (copy : List ℕ) (s : Plain J) (is : IsKeptUpTo K start all log copy s) where
    -- all frames lead to the state
    pub all_lead : Replays (format K) start all s
    all_lead = subst (λ l. Replays (format K) start l s) (take-append-drop is.kept all) (replays_joined (format K) start is.behind s (take is.kept all) (drop is.kept all) is.keeps.leads is.leads)

    abbrev pub kept_on : (frame : List ℕ) (t : Plain J) → state_after K s frame ≡ Some t → IsKeptUpTo K start (all ++ frame ∷ []) log (copy ++ frame) t
    kept_on frame t step =
        let same = drop-append-le is.kept all (frame ∷ []) is.keeps.few in
        record {
          kept = is.kept;
          behind = is.behind;
          keeps = has_kept_more frame is.kept is.behind is.keeps;
          copied = ap (λ l. l ++ frame) is.copied ∙ sym (row_one (drop is.kept all) frame) ∙ ap in_a_row (sym same);
          leads = subst (λ l. Replays (format K) is.behind l t) (sym same) (replays_one (format K) (format_laws K L) is.behind (drop is.kept all) s frame t is.leads step);
        }

    -- the frames that are copied, in a block
    module _ (first : ℕ) where
      in_row : frames_in log.blocks ++ copy ≡ in_a_row all
      in_row = ap (λ l. l ++ copy) is.keeps.frames ∙ ap (λ l. in_a_row (take is.kept all) ++ l) is.copied ∙ sym (row_more (take is.kept all) (drop is.kept all)) ∙ ap in_a_row (take-append-drop is.kept all)

      pub has_kept_all : HasKept K start all (length all) s (with_block log (block_of first s.number copy))
      has_kept_all =
          let whole = take_all (length all) all (omega arith) in
          record {
            few = omega arith;
            frames = blocks_one log.blocks (block_of first s.number copy) ∙ in_row ∙ ap in_a_row (sym whole);
            leads = subst (λ l. Replays (format K) start l s) (sym whole) all_lead;
            number = sym (last_number_more log (block_of first s.number copy));
          }

      abbrev pub kept_all : IsKeptUpTo K start all (with_block log (block_of first s.number copy)) [] s
      kept_all =
          let none : drop (length all) all ≡ [] = drop-length all in
          record {
            kept = length all;
            behind = s;
            keeps = has_kept_all;
            copied = ap in_a_row (sym none);
            leads = subst (λ l. Replays (format K) s l s) (sym none) refl;
          }

    -- a log that ends with the state has kept all
    abbrev pub kept_none : s.number ≤ last_number log → IsKeptUpTo K start all log [] s
    kept_none low =
        let number = is.keeps.number in
        let none : drop is.kept all ≡ [] = none_behind (format K) (format_laws K L) is.behind s (drop is.kept all) is.leads (omega (arith, low, number)) in
        record {
          kept = is.kept;
          behind = is.behind;
          keeps = is.keeps;
          copied = ap in_a_row (sym none);
          leads = is.leads;
        }
