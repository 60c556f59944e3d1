-- Matrices: a column for each task. A path of moves from slot s to slot t brings one more task to t and one fewer to s.
use Rattle.std.proofs.Common.{◌≡◌, ◌≢◌, ℕ, zero, suc, ◌+◌, ◌*◌, ◌<◌, ◌≤◌, ◌==◌, Bool, if◌then◌else◌, arith, ap, sym, ◌∙◌, refl, subst, ◌⊎◌, inl, inr}
use Rattle.std.proofs.lemmas.Bool.{cases_eq}
use Rattle.std.proofs.lemmas.Grind.{common_steps}
use Rattle.pfx_weights.specs.Rows.{one, count}
use Rattle.pfx_choice.proofs.SetSchedules.{upd}
use Rattle.pfx_weights.proofs.Counts.{count-same}
use Rattle.pfx_choice.proofs.Keeping.{upd-same, upd-other, count-upd}
use Rattle.pfx_machine_feasible.specs.Moves.{Move, moved}
use Rattle.pfx_machine_feasible.proofs.Moves.{moved-from, moved-to, moved-other, apart, fair_moved, survives}

-- how many tasks and slots, and each task's weight
pub record Frame : Type 0 where
  pub tasks : ℕ
  pub slots : ℕ
  pub e : ℕ → ℕ
  pub p : ℕ → ℕ

abbrev pub load : Frame → (ℕ → ℕ → Bool) → ℕ → ℕ
load f M i = count f.tasks (λ x. M x i)

abbrev pub IsFairMatrix : Frame → (ℕ → ℕ → Bool) → Type 0
IsFairMatrix f M = (x i : ℕ) → x < f.tasks → i ≤ f.slots → (f.p x * count i (M x) < f.e x * i + f.p x) × (f.e x * i < f.p x * count i (M x) + f.p x)

pub record Step (f : Frame) (M : ℕ → ℕ → Bool) (s v : ℕ) : Type 0 where
  pub x : ℕ
  pub within : x < f.tasks
  pub move : Move (f.e x) (f.p x) (M x) s v

abbrev pub Path : Frame → (ℕ → ℕ → Bool) → ℕ → ℕ → ℕ → Type 0
Path f M zero s t = s ≡ t
Path f M (suc k) s t = (v : ℕ) × Step f M s v × Path f M k v t

-- the matrix with one column replaced
abbrev pub put : ℕ → (ℕ → Bool) → (ℕ → ℕ → Bool) → ℕ → ℕ → Bool
put x c M y = if y == x then c else M y

pub put-same : (x : ℕ) (c : ℕ → Bool) (M : ℕ → ℕ → Bool) (y : ℕ) → y ≡ x → put x c M y ≡ c
put-same x c M y h = grind (arith, common_steps)

pub put-other : (x : ℕ) (c : ℕ → Bool) (M : ℕ → ℕ → Bool) (y : ℕ) → y ≢ x → put x c M y ≡ M y
put-other x c M y h = grind (arith, common_steps)

abbrev pub spot : ℕ → ℕ → ℕ
spot s i = if i == s then 1 else 0

pub spot-same : (s i : ℕ) → i ≡ s → spot s i ≡ 1
spot-same s i h = grind (arith, common_steps)

pub spot-other : (s i : ℕ) → i ≢ s → spot s i ≡ 0
spot-other s i h = grind (arith, common_steps)

load-put : (f : Frame) (M : ℕ → ℕ → Bool) (x : ℕ) (c : ℕ → Bool) (i : ℕ) → x < f.tasks → load f (put x c M) i + one (M x i) ≡ load f M i + one (c i)
load-put f M x c i l =
    let a : load f (put x c M) i ≡ count f.tasks (upd x (c i) (λ y. M y i)) = count-same f.tasks (λ y. put x c M y i) (upd x (c i) (λ y. M y i))
    (λ y k. elim (cases_eq y x) [
      | inl same ↦ ap (λ d. d i) (put-same x c M y same) ∙ sym (upd-same x (c i) (λ z. M z i) y same)
      | inr other ↦ ap (λ d. d i) (put-other x c M y other) ∙ sym (upd-other x (c i) (λ z. M z i) y other)
    ]) in
    let b : count f.tasks (upd x (c i) (λ y. M y i)) + one (M x i) ≡ count f.tasks (λ y. M y i) + one (c i) = count-upd f.tasks (λ y. M y i) x (c i) l in
    omega arith

-- one step from slot s to slot v done
abbrev pub done : (f : Frame) (M : ℕ → ℕ → Bool) (s v : ℕ) → Step f M s v → ℕ → ℕ → Bool
done f M s v w = put w.x (moved s v (M w.x)) M

module _ (f : Frame) (M : ℕ → ℕ → Bool) (a b : ℕ) (w : Step f M a b) where
  load-done : (i : ℕ) → load f (done f M a b w) i + spot a i ≡ load f M i + spot b i
  load-done i =
      let c : ℕ → Bool = moved a b (M w.x) in
      let h : load f (done f M a b w) i + one (M w.x i) ≡ load f M i + one (c i) = load-put f M w.x c i w.within in
      let ne : a ≢ b = apart (f.e w.x) (f.p w.x) (M w.x) a b w.move in
      elim (cases_eq i a) [
        | inl same ↦
            (let x : one (M w.x i) ≡ 1 = ap one (ap (M w.x) same ∙ w.move.from) in
            let y : one (c i) ≡ 0 = ap one (ap c same ∙ moved-from a b (M w.x) ne) in
            let z : spot a i ≡ 1 = spot-same a i same in
            let u : spot b i ≡ 0 = spot-other b i (λ q. ne (sym same ∙ q)) in
            omega arith)
        | inr not_a ↦ elim (cases_eq i b) [
          | inl same ↦
              (let x : one (M w.x i) ≡ 0 = ap one (ap (M w.x) same ∙ w.move.to) in
              let y : one (c i) ≡ 1 = ap one (ap c same ∙ moved-to a b (M w.x)) in
              let z : spot a i ≡ 0 = spot-other a i not_a in
              let u : spot b i ≡ 1 = spot-same b i same in
              omega arith)
          | inr not_b ↦
              (let x : one (c i) ≡ one (M w.x i) = ap one (moved-other a b (M w.x) i not_a not_b) in
              let z : spot a i ≡ 0 = spot-other a i not_a in
              let u : spot b i ≡ 0 = spot-other b i not_b in
              omega arith)
        ]
      ]

  fair-done : IsFairMatrix f M → IsFairMatrix f (done f M a b w)
  fair-done fair x i l k =
      let P : (ℕ → Bool) → ℕ → Type 0 = λ c y. (f.p y * count i c < f.e y * i + f.p y) × (f.e y * i < f.p y * count i c + f.p y) in
      elim (cases_eq x w.x) [
        | inl same ↦
            (let h = fair w.x i w.within k in
            let g : P (moved a b (M w.x)) w.x = fair_moved (f.e w.x) (f.p w.x) (M w.x) a b w.move i h.0 h.1 in
            subst (λ c. P c x) (sym (put-same w.x (moved a b (M w.x)) M x same)) (subst (P (moved a b (M w.x))) (sym same) g))
        | inr other ↦ subst (λ c. P c x) (sym (put-other w.x (moved a b (M w.x)) M x other)) (fair x i l k)
      ]

  step_stays : (s v : ℕ) → Step f M s v → Step f (done f M a b w) s v ⊎ Step f M a v
  step_stays s v u = elim (cases_eq u.x w.x) [
    | inl same ↦
        (let Mv : ℕ → Type 0 = λ y. Move (f.e y) (f.p y) (M y) s v in
        let h : Move (f.e w.x) (f.p w.x) (M w.x) s v = subst Mv same u.move in
        elim (survives (f.e w.x) (f.p w.x) (M w.x) a b w.move s v h) [
          | inl g ↦ inl (record { x = w.x; within = w.within; move = subst (λ c. Move (f.e w.x) (f.p w.x) c s v) (sym (put-same w.x (moved a b (M w.x)) M w.x refl)) g })
          | inr g ↦ inr (record { x = w.x; within = w.within; move = g })
        ])
    | inr other ↦ inl (record { x = u.x; within = u.within; move = subst (λ c. Move (f.e u.x) (f.p u.x) c s v) (sym (put-other w.x (moved a b (M w.x)) M u.x other)) u.move })
  ]

  -- the rest of a path stays one, or there is a shorter one from the first slot
  path_stays : (k s t : ℕ) → Path f M k s t → Path f (done f M a b w) k s t ⊎ ((j : ℕ) × (j ≤ k) × Path f M j a t)
  path_stays zero s t h = inl h
  path_stays (suc k) s t (v, u, h) = elim (step_stays s v u) [
    | inr g ↦ inr (suc k, omega arith, (v, g, h))
    | inl g ↦ elim (path_stays k v t h) [
      | inl r ↦ inl (v, g, r)
      | inr (j, l, r) ↦ inr (j, omega arith, r)
    ]
  ]

-- a fair matrix with one task more in slot t and one fewer in slot s
pub record Improved (f : Frame) (M : ℕ → ℕ → Bool) (s t : ℕ) : Type 0 where
  pub matrix : ℕ → ℕ → Bool
  pub fair : IsFairMatrix f matrix
  pub loads : (i : ℕ) → load f matrix i + spot s i ≡ load f M i + spot t i

-- along a path of length k, at most n
pub improve : (n : ℕ) (f : Frame) (M : ℕ → ℕ → Bool) (k s t : ℕ) → k ≤ n → IsFairMatrix f M → Path f M k s t → Improved f M s t
improve n f M zero s t le fair h = record { matrix = M; fair = fair; loads = λ i. ap (λ z. load f M i + spot z i) h }
improve zero f M (suc k) s t le fair h = absurd (omega arith)
improve (suc n) f M (suc k) s t le fair (v, w, h) = elim (path_stays f M s v w k v t h) [
  | inl r ↦
      (let g : Improved f (done f M s v w) v t = improve n f (done f M s v w) k v t (omega arith) (fair-done f M s v w fair) r in
      record {
        matrix = g.matrix;
        fair = g.fair;
        loads = λ i. (let x = g.loads i in let y = load-done f M s v w i in omega (arith, x, y));
      })
  | inr (j, l, r) ↦ improve n f M j s t (omega arith) fair r
]
