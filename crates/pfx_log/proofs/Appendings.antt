-- A block appended to an open log.
use Rattle.std.proofs.Common.{◌≡◌, inl, inr, ⊎_elim, ℕ, ◌+◌, List, [], ◌∷◌, ◌++◌, length, sym, ◌∙◌, ap, subst, arith, length-append}
use Rattle.pfx_disk.specs.Disk.{View, IsHonest, Leaves}
use Rattle.pfx_disk.specs.declared.gates.TheConstants.{GATE_OPEN}
use Rattle.pfx_disk.proofs.Steps.{leaves_as, leaves_none}
use Rattle.pfx_log.specs.Acts.{Grows, Opens}
use Rattle.pfx_log.specs.Holding.{Holds, IsEnd, IsShutBehind}
use Rattle.pfx_log.specs.Logs.{Block, IsBlock, IsLog, Log, block_text, head_of, last_head, last_number, log_bytes, with_block}
use Rattle.pfx_log.specs.declared.place.LogPlace.{LogPlace}
use Rattle.pfx_log.proofs.Fronts.{block_long}
use Rattle.pfx_log.proofs.Hashes.{sha256_long}
use Rattle.pfx_log.proofs.More.{is_log_more, last_head_more, last_number_more, log_more, log_more_long}

-- nothing is done
pub grows_none : (l : Log) (b : Block) (a : View) → IsHonest a → Leaves (Grows l b) a a
grows_none l b a honest = leaves_as (λ x y. y ≡ x) (Grows l b) a a (λ x y same holds. inl (subst (λ z. Holds z l) (sym same) holds)) (leaves_none a honest)

module _ (l : Log) (b : Block) (block : IsBlock (last_number l) b) where
  pub held_more : (x : List ℕ) → IsLog l → IsShutBehind (log_bytes l ++ (GATE_OPEN ∷ (block_text b ++ head_of (last_head l) b))) x → Holds x (with_block l b)
  held_more x is shut = record { is_log = is_log_more l b is block; stands = subst (λ front. IsShutBehind front x) (sym (log_more l b)) shut }

  grows : (x y : List ℕ) → Opens (log_bytes l) (block_text b ++ head_of (last_head l) b) x y → Grows l b x y
  grows x y opens holds = ⊎_elim (λ shut. inl (record { is_log = holds.is_log; stands = shut })) (λ more. inr (held_more y holds.is_log more)) (opens holds.stands)

  pub leaves_grows : (v w : View) → Leaves (Opens (log_bytes l) (block_text b ++ head_of (last_head l) b)) v w → Leaves (Grows l b) v w
  leaves_grows v w leaves = leaves_as (Opens (log_bytes l) (block_text b ++ head_of (last_head l) b)) (Grows l b) v w grows leaves

  pub new_end : (place next : LogPlace) → IsEnd l place → next.at ≡ place.at + (57 + length b.frames) → next.last ≡ b.last → next.head ≡ head_of (last_head l) b → IsEnd (with_block l b) next
  new_end place next end at last head = record {
    at = (let m = log_more_long l b in let a = end.at in omega (arith, at, m, a));
    last = last ∙ sym (last_number_more l b);
    head = head ∙ sym (last_head_more l b);
  }

-- what is put behind the gate, with the head of the log before
pub put_is : (l : Log) (b : Block) (place : LogPlace) (head bytes : List ℕ) → IsEnd l place → head ≡ head_of place.head b → bytes ≡ (block_text b ++ head) ++ 0 ∷ [] → bytes ≡ (block_text b ++ head_of (last_head l) b) ++ 0 ∷ []
put_is l b place head bytes end is split = split ∙ ap (λ h. (block_text b ++ h) ++ 0 ∷ []) (is ∙ ap (λ h. head_of h b) end.head)

pub put_long : (b : Block) (head before bytes : List ℕ) → head ≡ head_of before b → bytes ≡ (block_text b ++ head) ++ 0 ∷ [] → length bytes ≡ 57 + length b.frames
put_long b head before bytes is split =
    let h : length head ≡ 32 = ap length is ∙ sha256_long (before ++ block_text b) in
    let one = length-append (block_text b ++ head) (0 ∷ []) in
    let two = length-append (block_text b) head in
    let three = block_long b in
    ap length split ∙ omega (arith, one, two, three, h)
