-- What a write behind a gate, and one of the gate, may leave.
use Rattle.std.proofs.Common.{◌≡◌, ◌⊎◌, inl, inr, ⊎_elim, ℕ, suc, ◌+◌, ◌≤◌, ◌<◌, List, [], ◌∷◌, ◌++◌, length, get_or, take, drop, sym, ◌∙◌, ap, subst, arith, append_assoc, length-append, length-take, length-drop}
use Rattle.std.proofs.Math.Seq.{take-append_seam, take-append-add, drop-append-add}
use Rattle.std.proofs.lemmas.Bool.{cases_eq}
use Rattle.std.proofs.lemmas.List.{places, ext_get_or, take-append-drop, drop_more, get_or-drop}
use Rattle.pfx_disk.specs.declared.gates.TheConstants.{GATE_OPEN}
use Rattle.pfx_disk.specs.Disk.{View, IsHonest, Leaves, Same, Torn, Written, Only}
use Rattle.pfx_disk.proofs.Steps.{leaves_as, leaves_then, leaves_from_synced}
use Rattle.pfx_log.specs.Acts.{Opens}
use Rattle.pfx_log.specs.Holding.{IsShutBehind}

long : (front image : List ℕ) (gate : ℕ) (rest : List ℕ) → image ≡ front ++ gate ∷ rest → length image ≡ length front + 1 + length rest
long front image gate rest whole = ap length whole ∙ length-append front (gate ∷ rest) ∙ omega arith

-- what is torn from the end of the front on has the front
front_stays : (front x y : List ℕ) (gate : ℕ) (rest : List ℕ) (at n : ℕ) → x ≡ front ++ gate ∷ rest → length front ≤ at → Torn at n x y → take (length front) y ≡ front
front_stays front x y gate rest at n whole behind torn = ext_get_or 0 (take (length front) y) front same_length same
  where
    is : length x ≡ length front + 1 + length rest
    is = long front x gate rest whole

    same_length : length (take (length front) y) ≡ length front
    same_length = omega (arith, length-take (length front) y, torn.no_shorter, is)

    same : (i : ℕ) → i < length (take (length front) y) → get_or (take (length front) y) i 0 ≡ get_or front i 0
    same i below =
        let inside : i < length front = omega (arith, below, same_length) in
        let one : get_or (take (length front) y) i 0 ≡ get_or y i 0 = search (arith, places) in
        let two : get_or y i 0 ≡ get_or x i 0 = torn.elsewhere i (omega (arith, inside, is)) (inl (omega (arith, inside, behind))) in
        let three : get_or (front ++ gate ∷ rest) i 0 ≡ get_or front i 0 = search (arith, places) in
        one ∙ two ∙ ap (λ (l : List ℕ). get_or l i 0) whole ∙ three

gate_is : (front x : List ℕ) (gate : ℕ) (rest : List ℕ) → x ≡ front ++ gate ∷ rest → get_or x (length front) 0 ≡ gate
gate_is front x gate rest whole = ap (λ (l : List ℕ). get_or l (length front) 0) whole ∙ search (arith, places)

-- the front, the byte behind it, and the rest
split : (front y : List ℕ) → length front < length y → take (length front) y ≡ front → y ≡ front ++ get_or y (length front) 0 ∷ drop (length front + 1) y
split front y inside is = sym (take-append-drop (length front) y) ∙ ap (λ t. t ++ drop (length front) y) is ∙ ap (λ t. front ++ t) (drop_more y (length front) 0 inside)

-- what is torn behind a closed gate leaves the gate
pub torn_behind : (front x y : List ℕ) (n : ℕ) → Torn (length front + 1) n x y → IsShutBehind front x → IsShutBehind front y
torn_behind front x y n torn shut =
    let is = long front x shut.gate shut.rest shut.whole in
    let inside : length front < length y = (let s = torn.no_shorter in omega (arith, s, is)) in
    record {
      gate = get_or y (length front) 0;
      rest = drop (length front + 1) y;
      whole = split front y inside (front_stays front x y shut.gate shut.rest (length front + 1) n shut.whole (omega arith) torn);
      shut = λ opened. shut.shut (sym (gate_is front x shut.gate shut.rest shut.whole) ∙ sym (torn.elsewhere (length front) (omega (arith, is)) (inl (omega arith))) ∙ opened);
    }

-- a torn gate before bytes that end with a closed one
pub torn_gate : (front body x y : List ℕ) (gate : ℕ) (rest : List ℕ) → x ≡ front ++ gate ∷ (body ++ 0 ∷ rest) → Torn (length front) 1 x y → IsShutBehind front y ⊎ IsShutBehind (front ++ (GATE_OPEN ∷ body)) y
torn_gate front body x y gate rest whole torn =
    ⊎_elim
    (λ opened. inr (record {
      gate = 0;
      rest = rest;
      whole = is ∙ ap (λ g. front ++ g ∷ (body ++ 0 ∷ rest)) opened ∙ sym (append_assoc front (GATE_OPEN ∷ body) (0 ∷ rest));
      shut = λ same. omega (arith, same);
    }))
    (λ differ. inl (record { gate = get_or y (length front) 0; rest = body ++ 0 ∷ rest; whole = is; shut = differ }))
    (cases_eq (get_or y (length front) 0) GATE_OPEN)
  where
    long_x : length x ≡ length front + 1 + length (body ++ 0 ∷ rest)
    long_x = long front x gate (body ++ 0 ∷ rest) whole

    same_length : length y ≡ length x
    same_length = omega (arith, torn.no_shorter, torn.no_longer, long_x)

    behind : drop (length front + 1) y ≡ body ++ 0 ∷ rest
    behind = ext_get_or 0 (drop (length front + 1) y) (body ++ 0 ∷ rest) (omega (arith, length-drop (length front + 1) y, same_length, long_x))
        (λ i below. get_or-drop (length front + 1) y i 0
        ∙ torn.elsewhere (length front + 1 + i) (omega (arith, below, same_length, length-drop (length front + 1) y)) (inr (omega arith))
        ∙ ap (λ (l : List ℕ). get_or l (length front + 1 + i) 0) whole ∙ search (arith, places))

    is : y ≡ front ++ get_or y (length front) 0 ∷ (body ++ 0 ∷ rest)
    is = split front y (omega (arith, same_length, long_x)) (front_stays front x y gate (body ++ 0 ∷ rest) (length front) 1 whole (omega arith) torn)
        ∙ ap (λ t. front ++ get_or y (length front) 0 ∷ t) behind

-- all of a write behind a gate
pub written_behind : (front bytes x y : List ℕ) (gate : ℕ) (rest : List ℕ) → x ≡ front ++ gate ∷ rest → Written (length front + 1) bytes x y → y ≡ front ++ gate ∷ (bytes ++ drop (length bytes) rest)
written_behind front bytes x y gate rest whole written =
    written ∙ ap (λ (l : List ℕ). (take (length front + 1) l ++ bytes) ++ drop (length front + 1 + length bytes) l) whole
    ∙ ap (λ t. (t ++ bytes) ++ drop (length front + 1 + length bytes) (front ++ gate ∷ rest)) (take-append-add front (gate ∷ rest) 1)
    ∙ ap (λ t. ((front ++ gate ∷ []) ++ bytes) ++ t) (ap (λ (k : ℕ). drop k (front ++ gate ∷ rest)) more ∙ drop-append-add front (gate ∷ rest) (suc (length bytes)))
    ∙ append_assoc (front ++ gate ∷ []) bytes (drop (length bytes) rest) ∙ append_assoc front (gate ∷ []) (bytes ++ drop (length bytes) rest)
  where
    more : length front + 1 + length bytes ≡ length front + suc (length bytes)
    more = omega arith

pub long_written : (at : ℕ) (bytes x y : List ℕ) → at ≤ length x → Written at bytes x y → at + length bytes ≤ length y
long_written at bytes x y inside written = omega (arith, inside, ap length written, length-append (take at x ++ bytes) (drop (at + length bytes) x), length-append (take at x) bytes, length-take at x)

-- all of a write of a gate
pub written_gate : (front x y : List ℕ) (gate : ℕ) (rest : List ℕ) → x ≡ front ++ gate ∷ rest → Written (length front) (GATE_OPEN ∷ []) x y → y ≡ front ++ GATE_OPEN ∷ rest
written_gate front x y gate rest whole written =
    written ∙ ap (λ (l : List ℕ). (take (length front) l ++ (GATE_OPEN ∷ [])) ++ drop (length front + 1) l) whole
    ∙ ap (λ t. (t ++ (GATE_OPEN ∷ [])) ++ drop (length front + 1) (front ++ gate ∷ rest)) (take-append_seam front (gate ∷ rest))
    ∙ ap (λ t. (front ++ (GATE_OPEN ∷ [])) ++ t) (drop-append-add front (gate ∷ rest) 1)
    ∙ append_assoc front (GATE_OPEN ∷ []) rest

module _ (front body : List ℕ) where
  part : (n : ℕ) (x y : List ℕ) → Torn (length front + 1) n x y → Opens front body x y
  part n x y torn shut = inl (torn_behind front x y n torn shut)

  module _ (a b1 b2 : View) (honest : IsHonest a) where
    pub behind_written : (n : ℕ) → Leaves (Torn (length front + 1) n) a b1 → Leaves (Opens front body) a b1
    behind_written n first = leaves_as (Torn (length front + 1) n) (Opens front body) a b1 (part n) first

    pub then_synced : (r : List ℕ → List ℕ → Type 0) → a.clock ≤ b1.clock → Leaves r a b1 → Leaves Same b1 b2 → Leaves r a b2
    then_synced r later first second = leaves_then r Same r a b1 b2 later (λ x y is. is) (λ x y z step same. subst (λ l. r x l) (sym same) step) first second

    pub gate_opened : (b3 : View) → a.clock ≤ b1.clock → b1.clock ≤ b2.clock → Leaves (Torn (length front + 1) (length (body ++ 0 ∷ []))) a b1
        → Written (length front + 1) (body ++ 0 ∷ []) a.contents b1.contents → Leaves Same b1 b2 → Only b1.contents b2 → Leaves (Torn (length front) 1) b2 b3 → Leaves (Opens front body) a b3
    gate_opened b3 later1 later2 first written second only third =
        let n = length (body ++ 0 ∷ []) in
        let before = then_synced (Torn (length front + 1) n) later1 first second in
        let only2 : Only b2.contents b2 = λ image now. only image now ∙ sym second.contents in
        leaves_from_synced (Torn (length front + 1) n) (Torn (length front) 1) (Opens front body) a b2 b3 honest (omega (arith, later1, later2)) (part n)
        (λ z torn shut. torn_gate front body b2.contents z shut.gate (drop n shut.rest)
        (second.contents ∙ written_behind front (body ++ 0 ∷ []) a.contents b1.contents shut.gate shut.rest shut.whole written ∙ ap (λ t. front ++ shut.gate ∷ t) (append_assoc body (0 ∷ []) (drop n shut.rest))) torn)
        before only2 third

  -- and after all of them
  pub stands : (a b1 b2 b3 : View) → IsShutBehind front a.contents → Written (length front + 1) (body ++ 0 ∷ []) a.contents b1.contents → b2.contents ≡ b1.contents
      → Written (length front) (GATE_OPEN ∷ []) b2.contents b3.contents → IsShutBehind (front ++ (GATE_OPEN ∷ body)) b3.contents
  stands a b1 b2 b3 shut written same last =
      let n = length (body ++ 0 ∷ []) in
      let is = same ∙ written_behind front (body ++ 0 ∷ []) a.contents b1.contents shut.gate shut.rest shut.whole written ∙ ap (λ t. front ++ shut.gate ∷ t) (append_assoc body (0 ∷ []) (drop n shut.rest)) in
      record {
        gate = 0;
        rest = drop n shut.rest;
        whole = written_gate front b2.contents b3.contents shut.gate (body ++ 0 ∷ drop n shut.rest) is last ∙ sym (append_assoc front (GATE_OPEN ∷ body) (0 ∷ drop n shut.rest));
        shut = λ opened. omega (arith, opened);
      }

  pub stands_after : (x y : List ℕ) → Same x y → IsShutBehind (front ++ (GATE_OPEN ∷ body)) x → IsShutBehind (front ++ (GATE_OPEN ∷ body)) y
  stands_after x y same shut = subst (IsShutBehind (front ++ (GATE_OPEN ∷ body))) (sym same) shut
