-- A disk that its calls tell, one call on.
use Rattle.std.proofs.Common.{◌≡◌, ◌⊎◌, inl, inr, ⊎_elim, ℕ, ◌+◌, ◌-◌, min, ◌<◌, ◌≤◌, ◌^◌, Ok, Err, List, [], ◌∷◌, ◌++◌, length, map, take, drop, Bool, true, false, refl, sym, ap, ◌∙◌, subst, arith, length-append, length-take, length-drop, append-nil}
use Rattle.std.proofs.lemmas.List.{length-map, take_all, take-append-le}
use Rattle.std.proofs.lemmas.Bool.{cases_lt, false≢true}
use Rattle.pfx_disk.specs.CallsMade.{LeavesAtMost}
use Rattle.pfx_disk.specs.Disk.{View, IsHonest, IsSpent, IsLive, Ticks, Leaves, After, Same, Torn, Written, Only}
use Rattle.pfx_disk.specs.declared.device.DeviceFailed.{DeviceFailed}
use Rattle.pfx_disk.specs.Stop.{Act, Sync, Write, Look, put, contents_after, Left, LeftSince, view_of}
use Rattle.pfx_disk.proofs.Failing.{ticks_spent}
use Rattle.pfx_disk.proofs.Left.{put_inside, contents_more, left_back, leaves_write, leaves_sync, leaves_look, leaves_late, only_synced}
use Rattle.pfx_disk.proofs.Steps.{leaves_torn}
use Rattle.pfx_disk_chronicle.specs.Chart.{act_of, acts_of, under, failures_of, charted, charted_honest, noted_view, Noted, Follows, GoesAlong}
use Rattle.pfx_disk_chronicle.specs.declared.made.Made.{Made}
use Rattle.pfx_disk_chronicle.specs.declared.made.Made.TheVariants.{Synced, Looked, Wrote}

-- the acts of one call more
pub acts_more : (made : List Made) (m : Made) → acts_of (made ++ m ∷ []) ≡ acts_of made ++ act_of m ∷ []
acts_more [] m = refl
acts_more (x ∷ made) m = ap (λ l. act_of x ∷ l) (acts_more made m)

pub acts_count : (made : List Made) → length (acts_of made) ≡ length made
acts_count made = length-map made act_of

-- what was left since a moment was left since then, when there are more calls
more_since : (start : List ℕ) (done more : List Act) (c : ℕ) (image : List ℕ) → c ≤ length done → LeftSince start done c image → LeftSince start (done ++ more) c image
more_since start done more c image le is = (
  is.0,
  omega (arith, is.1, le),
  omega (arith, is.2, length-append done more),
  subst (λ (l : List Act). Left start l image) (sym (take-append-le is.0 done more is.2)) is.3,
)

-- an image of after some of the calls, these ones among them
abbrev pub Between : List ℕ → List Act → List Act → List ℕ → Type 0
Between start done then image = (k : ℕ) × (length done ≤ k) × (k ≤ length then) × Left start (take k then) image

pub at_the_end : (start : List ℕ) (done more then : List Act) (image : List ℕ) → then ≡ done ++ more → Left start then image → Between start done then image
at_the_end start done more then image is left = (
  length then,
  omega (arith, ap length is, length-append done more),
  omega arith,
  subst (λ (l : List Act). Left start l image) (sym (take_all (length then) then (omega arith))) left,
)

pub at_the_start : (start : List ℕ) (done more then : List Act) (image : List ℕ) → then ≡ done ++ more → Left start done image → Between start done then image
at_the_start start done more then image is left =
    let all : take (length done) then ≡ done = ap (take (length done)) is ∙ take-append-le (length done) done more (omega arith) ∙ take_all (length done) done (omega arith) in (
      length done,
      omega arith,
      omega (arith, ap length is, length-append done more),
      subst (λ (l : List Act). Left start l image) (sym all) left,
    )

-- a write inside leaves the length
length_put : (at : ℕ) (bytes old : List ℕ) → at + length bytes ≤ length old → length (put at bytes old) ≡ length old
length_put at bytes old inside =
    let behind = drop (at + length bytes) old in
    let is : length (put at bytes old) ≡ length (take at old ++ bytes ++ behind) = ap length (put_inside at bytes old (omega (arith, inside))) in
    let front : length (take at old) ≡ min at (length old) = length-take at old in
    let after : length behind ≡ length old - (at + length bytes) = length-drop (at + length bytes) old in
    let all : length (take at old ++ bytes ++ behind) ≡ length (take at old ++ bytes) + length behind = length-append (take at old ++ bytes) behind in
    let rest : length (take at old ++ bytes) ≡ length (take at old) + length bytes = length-append (take at old) bytes in
    is ∙ omega (arith, front, after, all, rest, inside)

module _ (held : Type 0) (start : List ℕ) (first : ℕ) where
  under_honest : (a : View) → held → IsHonest a → IsHonest (under held first a)
  under_honest a h honest = record { here = (h, honest.here); counted = λ c image le is. (is.0, λ low. honest.counted (c - first) image (omega (arith, le, low)) is.1) }

  under_leaves : (step : List ℕ → List ℕ → Type 0) (a b : View) → held → Leaves step a b → Leaves step (under held first a) (under held first b)
  under_leaves step a b h l = record {
    honest = under_honest b h l.honest;
    contents = l.contents;
    now = λ image is. let d = l.now image is.1 in (d.0, (h, d.1), d.2);
    since = λ c image le is. elim (cases_lt c first) [
      | inl before ↦ inl (h, λ low. absurd (omega (arith, before, low)))
      | inr low ↦ ⊎_elim (λ before. inl (h, λ _. before)) (λ d. inr (d.0, (h, d.1), d.2)) (l.since (c - first) image (omega (arith, le, low)) (is.1 low))
    ];
    keeps = λ c image le is. (h, λ low. l.keeps (c - first) image (omega (arith, le, low)) (is.1 low));
  }

  module _ (before : ℕ) where
    -- one call more was noted
    noted_more : (step : List ℕ → List ℕ → Type 0) (made then : List Made) (m : Made) (late late_then : ℕ) (failed failed_then : Bool) → held → late ≡ 0 → late_then ≡ 0 → then ≡ made ++ m ∷ []
        → Leaves step (view_of start (acts_of made) 0 (failures_of before failed)) (view_of start (acts_of made ++ act_of m ∷ []) 0 (failures_of before failed_then))
        → Leaves step (charted held start first before made late failed) (charted held start first before then late_then failed_then)
    noted_more step made then m late late_then failed failed_then h none none_then is l =
        let acts : acts_of then ≡ acts_of made ++ act_of m ∷ [] = ap acts_of is ∙ acts_more made m in
        let P : ℕ → ℕ → List Act → Type 0 = λ n k d. Leaves step (under held first (view_of start (acts_of made) n (failures_of before failed))) (under held first (view_of start d k (failures_of before failed_then))) in
        subst (λ n. P n late_then (acts_of then)) (sym none) (subst (λ k. P 0 k (acts_of then)) (sym none_then) (subst (P 0 0) (sym acts)
        (under_leaves step (view_of start (acts_of made) 0 (failures_of before failed)) (view_of start (acts_of made ++ act_of m ∷ []) 0 (failures_of before failed_then)) h l)))

    pub wrote : (made then : List Made) (at : ℕ) (bytes : List ℕ) (late late_then : ℕ) (failed failed_then : Bool) → held → late ≡ 0 → late_then ≡ 0 → then ≡ made ++ Wrote at bytes ∷ []
        → Leaves (Torn at (length bytes)) (charted held start first before made late failed) (charted held start first before then late_then failed_then)
    wrote made then at bytes late late_then failed failed_then h none none_then is =
        noted_more (Torn at (length bytes)) made then (Wrote at bytes) late late_then failed failed_then h none none_then is
        (leaves_write start (acts_of made) (failures_of before failed) (failures_of before failed_then) at bytes)

    pub synced : (made then : List Made) (late late_then : ℕ) (failed failed_then : Bool) → held → late ≡ 0 → late_then ≡ 0 → then ≡ made ++ Synced ∷ []
        → Leaves Same (charted held start first before made late failed) (charted held start first before then late_then failed_then)
    synced made then late late_then failed failed_then h none none_then is =
        noted_more Same made then Synced late late_then failed failed_then h none none_then is (leaves_sync start (acts_of made) (failures_of before failed) (failures_of before failed_then))

    pub looked : (made then : List Made) (late late_then : ℕ) (failed failed_then : Bool) → held → late ≡ 0 → late_then ≡ 0 → then ≡ made ++ Looked ∷ []
        → Leaves Same (charted held start first before made late failed) (charted held start first before then late_then failed_then)
    looked made then late late_then failed failed_then h none none_then is =
        noted_more Same made then Looked late late_then failed failed_then h none none_then is (leaves_look start (acts_of made) (failures_of before failed) (failures_of before failed_then))

    pub lost : (made then : List Made) (late late_then : ℕ) (failed failed_then : Bool) → held → then ≡ made
        → Leaves Same (charted held start first before made late failed) (charted held start first before then late_then failed_then)
    lost made then late late_then failed failed_then h is =
        subst (λ m. Leaves Same (charted held start first before made late failed) (charted held start first before m late_then failed_then)) (sym is)
        (under_leaves Same (view_of start (acts_of made) late (failures_of before failed)) (view_of start (acts_of made) late_then (failures_of before failed_then)) h
        (leaves_late start (acts_of made) (failures_of before failed) (failures_of before failed_then) late late_then))

    pub only_after : (made then : List Made) (late : ℕ) (failed : Bool) → then ≡ made ++ Synced ∷ []
        → Only (contents_after start (acts_of made)) (charted held start first before then late failed)
    only_after made then late failed is =
        let acts : acts_of then ≡ acts_of made ++ Sync ∷ [] = ap acts_of is ∙ acts_more made Synced in
        λ image now. only_synced start (acts_of made) 0 0 image (subst (λ d. Left start d image) acts now.1)

    -- what was written is read
    pub written : (made then : List Made) (at : ℕ) (bytes : List ℕ) → then ≡ made ++ Wrote at bytes ∷ [] → at ≤ length (contents_after start (acts_of made))
        → Written at bytes (contents_after start (acts_of made)) (contents_after start (acts_of then))
    written made then at bytes is inside =
        ap (λ m. contents_after start (acts_of m)) is ∙ ap (contents_after start) (acts_more made (Wrote at bytes)) ∙ contents_more start (acts_of made) (Write at bytes ∷ [])
        ∙ put_inside at bytes (contents_after start (acts_of made)) inside

  -- the disk behind, one call on
  module _ (old new : View) (made : List Made) (failed : Bool) (f : Follows held start first made failed old) (clock : old.clock ≡ first + length made) (tick : new.clock ≡ old.clock + 1)
      (only : (image : List ℕ) → new.since new.clock image → new.now image) where
    follows_on : (step : List ℕ → List ℕ → Type 0) (then : List Made) (failed_then : Bool) (more : List Act) → acts_of then ≡ acts_of made ++ more → Leaves step old new
        → (failed_then ≡ false → new.contents ≡ contents_after start (acts_of then)) → length (contents_after start (acts_of then)) ≡ length start
        → length old.contents ≤ length new.contents → LeavesAtMost new start (acts_of then) → ((image : List ℕ) → After step old image → Between start (acts_of made) (acts_of then) image) → Follows held start first then failed_then new
    follows_on step then failed_then more acts l contents long no_shorter images between = record {
      premise = f.premise;
      contents = contents;
      long = long;
      no_shorter = (let was = f.no_shorter in omega (arith, was, no_shorter));
      images = images;
      since = λ c image low high is.
          let count = acts_count made in
          let longer : length (acts_of made) ≤ length (acts_of then) = omega (arith, ap length acts, length-append (acts_of made) more) in
          elim (cases_lt old.clock c) [
            | inl past ↦
                let last : c ≡ new.clock = omega (arith, past, high, tick) in
                (length (acts_of then), omega arith, omega arith, subst (λ (a : List Act). Left start a image) (sym (take_all (length (acts_of then)) (acts_of then) (omega arith))) (images image (only image (subst (λ k. new.since k image) last is))))
            | inr within ↦
                let few : c - first ≤ length (acts_of made) = omega (arith, within, clock, count) in
                ⊎_elim
                (λ was. subst (λ a. LeftSince start a (c - first) image) (sym acts) (more_since start (acts_of made) more (c - first) image few (f.since c image low within was)))
                (λ d. let b = between image d in (b.0, omega (arith, few, b.1), b.2, b.3))
                (l.since c image within is)
          ];
    }

    pub follows_write : (then : List Made) (failed_then : Bool) (at : ℕ) (bytes : List ℕ) → then ≡ made ++ Wrote at bytes ∷ [] → failed ≡ false → at + length bytes ≤ length start
        → Leaves (Torn at (length bytes)) old new → (failed_then ≡ false → Written at bytes old.contents new.contents) → Follows held start first then failed_then new
    follows_write then failed_then at bytes is good place l written =
        let whole = ap length (f.contents good) ∙ f.long in
        let inside : at ≤ length old.contents = omega (arith, place, whole) in
        let put_long = length_put at bytes (contents_after start (acts_of made)) (omega (arith, place, f.long)) in
        let acts : acts_of then ≡ acts_of made ++ Write at bytes ∷ [] = ap acts_of is ∙ acts_more made (Wrote at bytes) in
        let left : (image : List ℕ) → After (Torn at (length bytes)) old image → Left start (acts_of then) image =
        λ image d. subst (λ a. Left start a image) (sym acts) (left_back start (λ i. i ≡ start) (acts_of made) (Write at bytes ∷ []) image (d.0, f.images d.0 d.1, d.2)) in
        follows_on (Torn at (length bytes)) then failed_then (Write at bytes ∷ []) acts l
        (λ still. written still ∙ (sym (put_inside at bytes old.contents inside) ∙ (ap (put at bytes) (f.contents good)
        ∙ sym (contents_more start (acts_of made) (Write at bytes ∷ [])) ∙ ap (contents_after start) (sym acts))))
        (ap (λ a. length (contents_after start a)) acts ∙ ap length (contents_more start (acts_of made) (Write at bytes ∷ [])) ∙ put_long ∙ f.long)
        l.contents.no_shorter
        (λ image now. left image (l.now image now))
        (λ image d. at_the_end start (acts_of made) (Write at bytes ∷ []) (acts_of then) image acts (left image d))

    pub follows_sync : (then : List Made) → then ≡ made ++ Synced ∷ [] → failed ≡ false → Leaves Same old new → Only old.contents new → Follows held start first then false new
    follows_sync then is good l durable =
        let acts : acts_of then ≡ acts_of made ++ Sync ∷ [] = ap acts_of is ∙ acts_more made Synced in
        follows_on Same then false (Sync ∷ []) acts l
        (λ _. l.contents ∙ f.contents good ∙ sym (contents_more start (acts_of made) (Sync ∷ [])) ∙ ap (contents_after start) (sym acts))
        (ap (λ a. length (contents_after start a)) acts ∙ ap length (contents_more start (acts_of made) (Sync ∷ [])) ∙ f.long)
        (omega (arith, ap length l.contents))
        (λ image now. subst (λ a. Left start a image) (sym acts) (left_back start (λ i. i ≡ start) (acts_of made) (Sync ∷ []) image (durable image now ∙ f.contents good)))
        (λ image d. at_the_start start (acts_of made) (Sync ∷ []) (acts_of then) image acts (subst (Left start (acts_of made)) (sym d.2) (f.images d.0 d.1)))

    pub follows_look : (then : List Made) → then ≡ made ++ Looked ∷ [] → failed ≡ false → Leaves Same old new → Follows held start first then false new
    follows_look then is good l =
        let acts : acts_of then ≡ acts_of made ++ Look ∷ [] = ap acts_of is ∙ acts_more made Looked in
        let left : (image : List ℕ) → After Same old image → Left start (acts_of made) image = λ image d. subst (Left start (acts_of made)) (sym d.2) (f.images d.0 d.1) in
        follows_on Same then false (Look ∷ []) acts l
        (λ _. l.contents ∙ f.contents good ∙ sym (contents_more start (acts_of made) (Look ∷ [])) ∙ ap (contents_after start) (sym acts))
        (ap (λ a. length (contents_after start a)) acts ∙ ap length (contents_more start (acts_of made) (Look ∷ [])) ∙ f.long)
        (omega (arith, ap length l.contents))
        (λ image now. subst (λ a. Left start a image) (sym acts) (left_back start (λ i. i ≡ start) (acts_of made) (Look ∷ []) image (left image (l.now image now))))
        (λ image d. at_the_start start (acts_of made) (Look ∷ []) (acts_of then) image acts (left image d))

    -- a call that failed, or a question: it leaves all as it was
    pub follows_lost : Leaves Same old new → Follows held start first made true new
    follows_lost l =
        let left : (image : List ℕ) → After Same old image → Left start (acts_of made) image = λ image d. subst (Left start (acts_of made)) (sym d.2) (f.images d.0 d.1) in
        follows_on Same made true [] (sym (append-nil (acts_of made))) l
        (λ still. absurd (false≢true (sym still)))
        f.long
        (omega (arith, ap length l.contents))
        (λ image now. left image (l.now image now))
        (λ image d. at_the_end start (acts_of made) [] (acts_of made) image (sym (append-nil (acts_of made))) (left image d))

-- how a call's counts go
spent_or_live : (a : View) → a.clock < 2 ^ 63 → a.failures < 2 ^ 63 → IsSpent a ⊎ IsLive a
spent_or_live a clock failures = elim (cases_lt a.clock (2 ^ 63 - 1)) [
  | inr last ↦ inl (inl (omega (arith, last, clock)))
  | inl below ↦ elim (cases_lt a.failures (2 ^ 63 - 1)) [
    | inr last ↦ inl (inr (omega (arith, last, failures)))
    | inl few ↦ inr (record { clock = below; failures = few })
  ]
]

-- a call that failed
pub failed_ticks : {T : Type 0} (a b : View) (e : DeviceFailed) → IsLive a → b.clock ≡ a.clock + 1 → b.failures ≡ 2 ^ 63 - 1 → Ticks {T = T} a b (Err e)
failed_ticks a b e live clock failures = record {
  ok = λ is. absurd (false≢true is);
  err = λ is. inl (omega (arith, live.failures, failures));
  tick = λ _. clock;
  rise = λ _ is. omega (arith, live.failures, failures);
  later = omega (arith, clock);
  once = omega (arith, clock);
  no_fewer = omega (arith, live.failures, failures);
  clock_limit = omega (arith, clock, live.clock);
  failures_limit = omega (arith, failures);
}

pub made_ticks : {T : Type 0} (a b : View) (x : T) → IsLive a → b.clock ≡ a.clock + 1 → b.failures ≡ a.failures → Ticks {T = T} a b (Ok x)
made_ticks a b x live clock failures = record {
  ok = λ is. (clock, failures);
  err = λ is. absurd (false≢true is);
  tick = λ _. clock;
  rise = λ _ is. absurd (false≢true is);
  later = omega (arith, clock);
  once = omega (arith, clock);
  no_fewer = omega (arith, failures);
  clock_limit = omega (arith, clock, live.clock);
  failures_limit = omega (arith, failures, live.failures);
}

-- what the disk's own calls say
module _ {D : Type 0} (held : Type 0) (start : List ℕ) (first before : ℕ) where
  pub honest_back : (a b : Noted D) → IsHonest (noted_view held start first before b) → IsHonest (noted_view held start first before a)
  honest_back a b honest = charted_honest held start first before a.made a.late a.failed honest.here.0

  -- a call that isn't passed on, or fails behind
  pub ticks_refused : {T : Type 0} (a b : Noted D) (e : DeviceFailed) → (noted_view held start first before a).clock < 2 ^ 63 → (noted_view held start first before a).failures < 2 ^ 63
      → (IsSpent (noted_view held start first before a) → b ≡ a) → (IsLive (noted_view held start first before a) → (noted_view held start first before b).clock ≡ (noted_view held start first before a).clock + 1)
      → (IsLive (noted_view held start first before a) → (noted_view held start first before b).failures ≡ 2 ^ 63 - 1) → Ticks {T = T} (noted_view held start first before a) (noted_view held start first before b) (Err e)
  ticks_refused {T} a b e clock failures limit tick rise =
      let P : Noted D → Type 0 = λ d. Ticks {T = T} (noted_view held start first before a) (noted_view held start first before d) (Err e) in
      elim (spent_or_live (noted_view held start first before a) clock failures) [
        | inl spent ↦ subst P (sym (limit spent)) (ticks_spent {T = T} (noted_view held start first before a) e clock failures spent)
        | inr live ↦ failed_ticks {T = T} (noted_view held start first before a) (noted_view held start first before b) e live (tick live) (rise live)
      ]

  pub leaves_if : (step : List ℕ → List ℕ → Type 0) (a b : Noted D) → (held → Leaves step (noted_view held start first before a) (noted_view held start first before b))
      → IsHonest (noted_view held start first before a) → Leaves step (noted_view held start first before a) (noted_view held start first before b)
  leaves_if step a b l honest = l honest.here.0

  pub torn_if : (at n : ℕ) (a b : Noted D) → (held → Leaves Same (noted_view held start first before a) (noted_view held start first before b))
      → IsHonest (noted_view held start first before a) → Leaves (Torn at n) (noted_view held start first before a) (noted_view held start first before b)
  torn_if at n a b l honest = leaves_torn at n (noted_view held start first before a) (noted_view held start first before b) (l honest.here.0)

pub ruleset chart_steps = (honest_back, leaves_if, torn_if, ticks_refused, acts_count)
