-- The records of a text, one at a time.
use Rattle.std.proofs.Common.{◌≡◌, ◌<◌, ◌⊎◌, ℕ, zero, suc, List, [], ◌∷◌, ◌++◌, length, true, false, Option, Some, None, refl, sym, ap, ◌∙◌, inl, inr, arith}
use Rattle.std.proofs.lemmas.Bool.{cases_Bool}
use Rattle.csv.specs.Machine.{Read, next_record, ends_at_end, is_end, step, fields_after, field_after}
use Rattle.csv.specs.Reading.{NextIs, ReadsNext, records_from}
use Rattle.csv.specs.declared.parser.Config.{Config}
use Rattle.pfx_program_script.specs.Records.{Covers}
use Rattle.csv.specs.declared.parser.State.{State}
use Rattle.csv.specs.declared.parser.State.TheVariants as st

-- a record takes a byte, or it is the last
next_record-shorter : (cfg : Config) (s : State) (f : List (List ℕ)) (p xs : List ℕ) (q : Read) → next_record cfg s f p xs ≡ Some q
    → (length q.2 < length xs) ⊎ ((q.1 ≡ st.StartRecord) × (q.2 ≡ []))
unfolding next_record
next_record-shorter cfg s f p [] q e =
    elim (cases_Bool (ends_at_end s)) [
      | inl ends ↦ let same : Some (f ++ p ∷ [], st.StartRecord, []) ≡ Some q = rw ends at e in inr (cc, cc)
      | inr goes ↦ let none : ◌≡◌ {A = Option Read} None (Some q) = rw goes at e in absurd (cc)
    ]
next_record-shorter cfg s f p (c ∷ rest) q e =
    elim (cases_Bool (is_end (step cfg s c).1)) [
      | inl ends ↦
          let same : Some (fields_after (step cfg s c).1 f p, (step cfg s c).0, rest) ≡ Some q = rw ends at e in
          let left : q.2 ≡ rest = cc in
          inl (rw left (omega arith))
      | inr goes ↦
          elim (next_record-shorter cfg (step cfg s c).0 (fields_after (step cfg s c).1 f p) (field_after (step cfg s c).1 c p) rest q (rw goes at e)) [
            | inl less ↦ inl (omega arith)
            | inr last ↦ inr last
          ]
    ]

next_is : (o : Option Read) (f : List (List ℕ)) (s : State) (z : List ℕ) → NextIs o true f s z → o ≡ Some (f, s, z)
next_is None f s z n = absurd (cc n)
next_is (Some p) f s z n = rw (n.1, n.2, n.3) refl

no_next_is : (o : Option Read) (f : List (List ℕ)) (s : State) (z : List ℕ) → NextIs o false f s z → o ≡ None
no_next_is None f s z n = refl
no_next_is (Some p) f s z n = absurd (cc n.0)

-- what a read that found a record read, and one that found none
pub next_record-found : (cfg : Config) (s s2 : State) (y : List ℕ) (k : Option (List ℕ)) (f : List (List ℕ)) → ReadsNext cfg s (Some y) k true f s2
    → (z : List ℕ) × (k ≡ Some z) × (next_record cfg s [] [] y ≡ Some (f, s2, z))
next_record-found cfg s s2 y None f r = absurd r
next_record-found cfg s s2 y (Some z) f r = (z, refl, next_is (next_record cfg s [] [] y) f s2 z r)

pub next_record-not_found : (cfg : Config) (s s2 : State) (y : List ℕ) (k : Option (List ℕ)) (f : List (List ℕ)) → ReadsNext cfg s (Some y) k false f s2
    → next_record cfg s [] [] y ≡ None
next_record-not_found cfg s s2 y None f r = absurd r
next_record-not_found cfg s s2 y (Some z) f r = no_next_is (next_record cfg s [] [] y) f s2 z r

none_at_end : (cfg : Config) (s : State) (y : List ℕ) (q : Read) → s ≡ st.StartRecord → y ≡ [] → next_record cfg s [] [] y ≡ Some q → ⊥
unfolding next_record
none_at_end cfg s y q start end e = let none : ◌≡◌ {A = Option Read} None (Some q) = rw (start, end) at e in cc none

-- the records left are the next one and those after it
pub records_from-some : (cfg : Config) (n : ℕ) (s : State) (y : List ℕ) (q : Read) → Covers n s y → next_record cfg s [] [] y ≡ Some q
    → (m : ℕ) × (records_from cfg n s y ≡ q.0 ∷ records_from cfg m q.1 q.2) × Covers m q.1 q.2
unfolding records_from
records_from-some cfg zero s y q covered e =
    elim covered [
      | inl few ↦ absurd (omega arith)
      | inr last ↦ absurd (none_at_end cfg s y q last.0 last.1 e)
    ]
records_from-some cfg (suc m) s y q covered e = (
  m,
  rw e refl,
  elim (next_record-shorter cfg s [] [] y q e) [
    | inl less ↦ elim covered [
      | inl few ↦ inl (omega arith)
      | inr last ↦ absurd (none_at_end cfg s y q last.0 last.1 e)
    ]
    | inr last ↦ inr last
  ],
)

-- and none if there is no next one
pub records_from-none : (cfg : Config) (n : ℕ) (s : State) (y : List ℕ) → next_record cfg s [] [] y ≡ None → records_from cfg n s y ≡ []
unfolding records_from
records_from-none cfg zero s y e = refl
records_from-none cfg (suc n) s y e = rw e refl

-- one number less covers what is left after the next record
covers_next : (cfg : Config) (n : ℕ) (s : State) (y : List ℕ) (q : Read) → Covers (suc n) s y → next_record cfg s [] [] y ≡ Some q → Covers n q.1 q.2
covers_next cfg n s y q covered e =
    elim (next_record-shorter cfg s [] [] y q e) [
      | inl less ↦ elim covered [
        | inl few ↦ inl (omega arith)
        | inr last ↦ absurd (none_at_end cfg s y q last.0 last.1 e)
      ]
      | inr last ↦ inr last
    ]

records_from-none_left : (cfg : Config) (n : ℕ) (s : State) (y : List ℕ) → s ≡ st.StartRecord → y ≡ [] → records_from cfg n s y ≡ []
unfolding next_record
records_from-none_left cfg n s y start end = records_from-none cfg n s y (rw (start, end) refl)

-- two runs over the records go on alike
same_on : (cfg : Config) (n m : ℕ) (s : State) (y : List ℕ) (o : Option Read) → next_record cfg s [] [] y ≡ o → ((q : Read) → o ≡ Some q → records_from cfg n q.1 q.2 ≡ records_from cfg m q.1 q.2)
    → records_from cfg (suc n) s y ≡ records_from cfg (suc m) s y
unfolding records_from
same_on cfg n m s y None e alike = records_from-none cfg (suc n) s y e ∙ sym (records_from-none cfg (suc m) s y e)
same_on cfg n m s y (Some q) e alike = rw e (ap (λ rows. q.0 ∷ rows) (alike q refl))

-- any two numbers that cover the records give the same ones
pub records_from-same : (cfg : Config) (n m : ℕ) (s : State) (y : List ℕ) → Covers n s y → Covers m s y → records_from cfg n s y ≡ records_from cfg m s y
records_from-same cfg zero m s y (inl few) b = absurd (omega arith)
records_from-same cfg zero m s y (inr last) b = records_from-none_left cfg zero s y last.0 last.1 ∙ sym (records_from-none_left cfg m s y last.0 last.1)
records_from-same cfg (suc n) zero s y a (inl few) = absurd (omega arith)
records_from-same cfg (suc n) zero s y a (inr last) = records_from-none_left cfg (suc n) s y last.0 last.1 ∙ sym (records_from-none_left cfg zero s y last.0 last.1)
records_from-same cfg (suc n) (suc m) s y a b =
    same_on cfg n m s y (next_record cfg s [] [] y) refl (λ q e. records_from-same cfg n m q.1 q.2 (covers_next cfg n s y q a e) (covers_next cfg m s y q b e))
