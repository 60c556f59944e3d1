-- Frames in a row, and where frames lead.
use Rattle.std.proofs.Common.{◌≡◌, ℕ, ◌≤◌, List, [], ◌∷◌, ◌++◌, refl, sym, ◌∙◌, ap, subst, arith, append_assoc, append-nil}
use Rattle.pfx_log.specs.Logs.{Block}
use Rattle.pfx_store_image.specs.Codec.{Codec, Laws}
use Rattle.pfx_store_image.specs.Store.{Replays}
use Rattle.pfx_store_image.proofs.Runs.{replays_rise}
use Rattle.pfx_log_store.specs.Covering.{frames_in, in_a_row}

pub row_more : (xs ys : List (List ℕ)) → in_a_row (xs ++ ys) ≡ in_a_row xs ++ in_a_row ys
row_more [] ys = refl
row_more (x ∷ xs) ys = ap (λ l. x ++ l) (row_more xs ys) ∙ sym (append_assoc x (in_a_row xs) (in_a_row ys))

pub row_one : (xs : List (List ℕ)) (frame : List ℕ) → in_a_row (xs ++ frame ∷ []) ≡ in_a_row xs ++ frame
row_one xs frame = row_more xs (frame ∷ []) ∙ ap (λ l. in_a_row xs ++ l) (append-nil frame)

pub blocks_one : (us : List Block) (b : Block) → frames_in (us ++ b ∷ []) ≡ frames_in us ++ b.frames
blocks_one [] b = append-nil b.frames
blocks_one (u ∷ us) b = ap (λ l. u.frames ++ l) (blocks_one us b) ∙ sym (append_assoc u.frames (frames_in us) b.frames)

module _ {H S : Type 0} (K : Codec H S) where
  pub replays_joined : (s t u : S) (xs ys : List (List ℕ)) → Replays K s xs t → Replays K t ys u → Replays K s (xs ++ ys) u
  replays_joined s t u [] ys one other = subst (λ v. Replays K v ys u) (sym one) other
  replays_joined s t u (x ∷ xs) ys one other = (one.0, one.1, replays_joined one.0 t u xs ys one.2 other)

  -- frames that lead to no greater number are none
  pub none_behind : Laws K → (s t : S) (frames : List (List ℕ)) → Replays K s frames t → K.number t ≤ K.number s → frames ≡ []
  none_behind laws s t [] is low = refl
  none_behind laws s t (frame ∷ frames) is low = absurd (omega (arith, low, replays_rise K laws s (frame ∷ frames) t (omega arith) is))
