-- The block that stands behind a log.
use Rattle.std.proofs.Common.{◌≡◌, ◌≢◌, ℕ, ◌+◌, ◌^◌, ◌≤◌, ◌<◌, List, ◌∷◌, ◌++◌, length, get_or, take, drop, refl, sym, ◌∙◌, ap, subst, arith, append_assoc, length-take, length-drop}
use Rattle.std.proofs.lemmas.List.{take-append-drop, drop-drop, drop_more}
use Rattle.pfx_disk.specs.declared.gates.TheConstants.{GATE_OPEN}
use Rattle.pfx_log.specs.Faults.{IsBlockFault, IsSized}
use Rattle.pfx_log.specs.Holding.{Begins, Holds}
use Rattle.pfx_log.specs.Logs.{AreBytes, IsBlock, Log, block_bytes, block_of, block_text, head_of, last_head, last_number, log_bytes, with_block}
use Rattle.pfx_log.specs.Reading.{IsFront}
use Rattle.pfx_log.specs.declared.faults.Damage.TheVariants.{Head}
use Rattle.pfx_log.specs.declared.faults.LogFault.TheVariants.{Damaged}
use Rattle.pfx_log.specs.declared.place.LogPlace.{LogPlace}
use Rattle.pfx_log.specs.declared.place.TheConstants.{MOST}
use Rattle.pfx_log.proofs.Fronts.{block_behind, frames_long, sized_block}
use Rattle.pfx_log.proofs.More.{is_log_more, last_head_more, last_number_more, log_more, log_more_long}

-- a closed gate behind it
pub ends : (xs : List ℕ) (log : Log) (place : LogPlace) → Begins log place xs → place.at < length xs → get_or xs place.at 0 ≢ GATE_OPEN → Holds xs log
ends xs log place begins inside shut = record {
  is_log = begins.is_log;
  stands = record {
    gate = get_or xs place.at 0;
    rest = drop (place.at + 1) xs;
    whole = begins.whole ∙ ap (λ t. log_bytes log ++ t) (drop_more xs place.at 0 inside);
    shut = shut;
  };
}

module _ (xs : List ℕ) (log : Log) (place : LogPlace) (begins : Begins log place xs) (n first last : ℕ) (fits : place.at + 57 + n ≤ length xs) (most : n ≤ MOST) (front : IsFront place.at n first last xs)
    (frames : List ℕ) (is : frames ≡ take n (drop (place.at + 25) xs)) (small : first < 2 ^ 64) (small_last : last < 2 ^ 64) (head : List ℕ) (is_head : head ≡ take 32 (drop (place.at + 25 + n) xs)) where
  head_long : length head ≡ 32
  head_long = ap length is_head ∙ length-take 32 (drop (place.at + 25 + n) xs) ∙ (let d = length-drop (place.at + 25 + n) xs in omega (arith, d, fits))

  inside : place.at < length xs
  inside = omega (arith, fits)

  behind : drop place.at xs ≡ GATE_OPEN ∷ (block_text (block_of first last frames) ++ (head ++ drop (place.at + 57 + n) xs))
  behind = block_behind xs place.at inside front.gate n first last front.front fits
      ∙ ap (λ f. GATE_OPEN ∷ (block_text (block_of first last f) ++ drop (place.at + 25 + n) xs)) (sym is)
      ∙ ap (λ t. GATE_OPEN ∷ (block_text (block_of first last frames) ++ t))
      (sym (take-append-drop 32 (drop (place.at + 25 + n) xs)) ∙ ap (λ t. t ++ drop 32 (drop (place.at + 25 + n) xs)) (sym is_head)
      ∙ ap (λ t. head ++ t) (drop-drop 32 (place.at + 25 + n) xs ∙ ap (λ (k : ℕ). drop k xs) (omega arith)))

  sized : IsSized (block_of first last frames)
  sized = subst (λ f. IsSized (block_of first last f)) (sym is) (sized_block xs place.at inside front.gate n first last front.front fits most small small_last)

  pub other_head : head ≢ head_of place.head (block_of first last frames) → IsBlockFault (Damaged place.at Head) log place.at (drop place.at xs)
  other_head differ = (
    refl,
    block_of first last frames,
    head,
    drop (place.at + 57 + n) xs,
    sized,
    behind,
    head_long,
    λ same. differ (same ∙ ap (λ h. head_of h (block_of first last frames)) (sym begins.end.head)),
  )

  pub goes_on : AreBytes frames → first ≡ place.last + 1 → first ≤ last → head ≡ head_of place.head (block_of first last frames)
      → (next : LogPlace) → next.at ≡ place.at + 57 + n → next.last ≡ last → next.head ≡ head → Begins (with_block log (block_of first last frames)) next xs
  goes_on bytes next_is some same next at last_is head_is =
      let b = block_of first last frames in
      let long : length frames ≡ n = ap length is ∙ frames_long xs place.at inside front.gate n first last front.front fits in
      let block : IsBlock (last_number log) b = record { next = (let l = begins.end.last in omega (arith, next_is, l)); some = some; small = small_last; most = omega (arith, most, long); bytes = bytes } in
      let heads : head ≡ head_of (last_head log) b = same ∙ ap (λ h. head_of h b) begins.end.head in
      record {
        is_log = is_log_more log b begins.is_log block;
        end = record {
          at = (let m = log_more_long log b in let a = begins.end.at in omega (arith, m, a, at, long));
          last = last_is ∙ sym (last_number_more log b);
          head = head_is ∙ heads ∙ sym (last_head_more log b);
        };
        whole = begins.whole ∙ ap (λ t. log_bytes log ++ t) (behind
            ∙ ap (λ h. GATE_OPEN ∷ (block_text b ++ (h ++ drop (place.at + 57 + n) xs))) heads
            ∙ ap (λ t. GATE_OPEN ∷ t) (sym (append_assoc (block_text b) (head_of (last_head log) b) (drop (place.at + 57 + n) xs))))
            ∙ sym (append_assoc (log_bytes log) (block_bytes (last_head log) b) (drop (place.at + 57 + n) xs))
            ∙ ap (λ l. l ++ drop (place.at + 57 + n) xs) (sym (log_more log b))
            ∙ ap (λ k. log_bytes (with_block log b) ++ drop k xs) (sym at);
      }
