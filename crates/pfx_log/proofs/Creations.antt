-- The steps in which a new log is made.
use Rattle.std.proofs.Common.{◌≡◌, inl, inr, ⊎_elim, ℕ, ◌≤◌, ◌<◌, List, [], ◌∷◌, ◌++◌, length, take, drop, sym, ◌∙◌, ap, subst, arith, append-nil}
use Rattle.std.proofs.lemmas.List.{nil_from_length}
use Rattle.pfx_disk.specs.Disk.{View, HasFailed, IsHonest, Leaves, Same, Torn, Written, Only}
use Rattle.pfx_disk.specs.declared.gates.TheConstants.{GATE_OPEN}
use Rattle.pfx_disk.proofs.Steps.{leaves_as, leaves_then, leaves_from_synced}
use Rattle.pfx_log.specs.Acts.{Begins, Creates, Opens}
use Rattle.pfx_log.specs.Holding.{Holds, IsShutBehind, IsUnmade}
use Rattle.pfx_log.specs.Logs.{AreBytes, IsLog, Log, header_text, log_bytes, new_log}
use Rattle.pfx_log.specs.declared.place.TheConstants.{MOST}

same_begins : (x y : List ℕ) → Same x y → Begins x y
same_begins x y same none = inl (omega (arith, ap length same, ap length none))

pub looked_at : (a b : View) → Leaves Same a b → Leaves Begins a b
looked_at a b looked = leaves_as Same Begins a b same_begins looked

-- the first byte, or a part of it
pub first_written : (a b c : View) → a.clock ≤ b.clock → Leaves Same a b → Leaves (Torn 0 1) b c → Leaves Begins a c
first_written a b c later looked first = leaves_then Same (Torn 0 1) Begins a b c later same_begins
    (λ x y z same torn none. inl (let l = torn.no_longer in omega (arith, l, ap length same, ap length none))) looked first

pub begins_synced : (a b c : View) → a.clock ≤ b.clock → Leaves Begins a b → Leaves Same b c → Leaves Begins a c
begins_synced a b c later first second = leaves_then Begins Same Begins a b c later (λ x y is. is) (λ x y z step same none. subst IsUnmade (sym same) (step none)) first second

pub was_empty : (xs : List ℕ) (n : ℕ) → n ≡ length xs → n ≡ 0 → xs ≡ []
was_empty xs n is none = nil_from_length xs (sym is ∙ none)

pub gate_alone : (x y : List ℕ) → x ≡ [] → Written 0 (0 ∷ []) x y → y ≡ 0 ∷ []
gate_alone x y none written = written ∙ ap (λ (l : List ℕ). (take 0 l ++ (0 ∷ [])) ++ drop 1 l) none

-- a header put behind the gate is a new log
module _ (l : Log) (is : IsLog l) (bytes : log_bytes l ≡ GATE_OPEN ∷ header_text l) where
  made : (x : List ℕ) → IsShutBehind ([] ++ (GATE_OPEN ∷ header_text l)) x → Holds x l
  made x shut = record { is_log = is; stands = subst (λ front. IsShutBehind front x) (sym bytes) shut }

  pub gate_shut : (x : List ℕ) → x ≡ 0 ∷ [] → IsShutBehind [] x
  gate_shut x alone = record { gate = 0; rest = []; whole = alone; shut = λ opened. omega (arith, opened) }

  pub put_behind_gate : (a b c : View) → IsHonest a → a.clock ≤ b.clock → Leaves Begins a b → b.contents ≡ 0 ∷ [] → Only b.contents b → Leaves (Opens [] (header_text l)) b c → Leaves (Creates l) a c
  put_behind_gate a b c honest later begins alone only second =
      leaves_from_synced Begins (Opens [] (header_text l)) (Creates l) a b c honest later (λ x y step none. inl (step none))
      (λ z opens none. ⊎_elim (λ shut. inl (inr shut)) (λ open_is. inr (made z open_is)) (opens (gate_shut b.contents alone))) begins only second

  pub is_held : (x : List ℕ) → IsShutBehind ([] ++ (GATE_OPEN ∷ header_text l)) x → Holds x l
  is_held x shut = made x shut

  pub begins_creates : (a b : View) → Leaves Begins a b → Leaves (Creates l) a b
  begins_creates a b first = leaves_as Begins (Creates l) a b (λ x y step none. inl (step none)) first

pub new_bytes : (version : ℕ) (state before : List ℕ) → log_bytes (new_log version state before) ≡ GATE_OPEN ∷ header_text (new_log version state before)
unfolding log_bytes
new_bytes version state before = append-nil (GATE_OPEN ∷ header_text (new_log version state before))

pub new_is_log : (version : ℕ) (state before : List ℕ) → version < 256 → 8 ≤ length state → length state ≤ MOST → length before ≡ 32 → AreBytes state → AreBytes before → IsLog (new_log version state before)
new_is_log version state before small some most long is_state is_before = record {
  header = record { version = small; some = some; most = most; long = long; state = is_state; before = is_before };
  blocks = tt;
}

pub failed_then : (a b c : View) → a.failures ≤ b.failures → HasFailed b c → HasFailed a c
failed_then a b c more failed = ⊎_elim (λ rise. inl (omega (arith, more, rise))) (λ spent. inr spent) failed
