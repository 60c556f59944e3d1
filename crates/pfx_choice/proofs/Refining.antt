-- The tasks before a place, and of those at it the ones with the lesser keys, are PF's row with the best of those that tie.
use Rattle.std.proofs.Common.{[], ◌∷◌, ◌++◌, subst, ◌≡◌, ◌≢◌, ℕ, zero, suc, ◌+◌, ◌-◌, ◌<◌, ◌≤◌, ◌==◌, ◌||◌, Bool, true, false, if◌then◌else◌, List, length, slice_index_or, Option, None, set, length-set, get_or-set_same, get_or-set_other, arith, ap, sym, ◌∙◌, refl, inl, inr}
use Rattle.std.specs.Prelude.{nat_lt, All}
use Rattle.std.specs.declared.cmp.Ordering.TheVariants.{Greater}
use Rattle.std.specs.Ordering.{ordering_then}
use Rattle.std.proofs.lemmas.Bool.{cases_lt, cases_eq}
use Rattle.std.proofs.lemmas.List.{append-nil}
use Rattle.std.proofs.lemmas.List.Elements.{All-nil}
use Rattle.pfx_symbols.specs.declared.keys.Key.{Key}
use Rattle.pfx_symbols.specs.Ranks.{Parts, tie_cmp}
use Rattle.pfx_symbols.proofs.RankKeyOrder.{rank_keys_tell}
use Rattle.pfx_symbols.proofs.Rounds.{number_greater}
use Rattle.pfx_weights.specs.Rows.{count, members, marked_in}
use Rattle.pfx_weights.specs.Search.{IsNowhere, IsFirstFrom}
use Rattle.pfx_weights.proofs.Counts.{count-same}
use Rattle.pfx_weights.proofs.RowSets.{members-same}
use Rattle.pfx_columns.specs.Ledgers.{Ledger, total, rank, IsLedger}
use Rattle.pfx_choice.specs.Choices.{IsPfRow, BeatsIn}
use Rattle.pfx_choice.specs.Cuts.{below}
use Rattle.pfx_choice.specs.Picks.{IsReady, if_rank, ranks_if, IsPivotFor, reaches, top, id_in}
use Rattle.pfx_choice.specs.Places.{place, ArePlacesIn}
use Rattle.pfx_choice.specs.Refined.{key_in, AreKeysAt, by_number, level, AreSplit}
use Rattle.pfx_choice.proofs.Best.{rank_in, rank_order}
use Rattle.pfx_choice.proofs.CutRows.{cut_none, or_false, no_place, cut_or}
use Rattle.pfx_choice.proofs.Picking.{ranks_below_if, ranks_more_if, top_in}
use Rattle.pfx_choice.proofs.Cutting.{ArePlacesOf, cut_set, cut_pf, lt_yes, lt_no, eq_yes, eq_no}
use Rattle.pfx_choice.proofs.Placement.{are_places, first_greater}

-- a task's level by its place, its number and whether that is enough
abbrev by_place : ℕ → ℕ → ℕ → ℕ → Bool → ℕ
by_place p d number cut enough = if nat_lt p d then 0 else (if p == d then by_number number cut enough else 255)

at_before : (p d number cut : ℕ) (enough : Bool) → p < d → by_place p d number cut enough ≡ 0
at_before p d number cut enough less = rw (lt_yes p d less) refl

at_place : (p d number cut : ℕ) (enough : Bool) → p ≡ d → by_place p d number cut enough ≡ by_number number cut enough
at_place p d number cut enough same = rw (lt_no p d (omega (arith, same)), eq_yes p d same) refl

at_behind : (p d number cut : ℕ) (enough : Bool) → d < p → by_place p d number cut enough ≡ 255
at_behind p d number cut enough more = rw (lt_no p d (omega (arith, more)), eq_no p d (λ e. omega (arith, more, e))) refl

pub by_less : (number cut : ℕ) (enough : Bool) → number < cut → by_number number cut enough ≡ 0
by_less number cut enough less = rw (lt_yes number cut less) refl

pub by_same : (number cut : ℕ) (enough : Bool) → number ≡ cut → by_number number cut enough ≡ (if enough then 0 else 1)
by_same number cut enough same = rw (lt_no number cut (omega (arith, same)), eq_yes number cut same) refl

pub by_more : (number cut : ℕ) (enough : Bool) → cut < number → by_number number cut enough ≡ 255
by_more number cut enough more = rw (lt_no number cut (omega (arith, more)), eq_no number cut (λ e. omega (arith, more, e))) refl

choice_most : (enough : Bool) → (if enough then 0 else 1) ≤ 1
choice_most true = omega arith
choice_most false = omega arith

number_most : (number cut : ℕ) (enough : Bool) → by_number number cut enough ≤ 255
number_most number cut enough = elim (cases_lt number cut) [
  | inl less ↦ (let is = by_less number cut enough less in omega (arith, is))
  | inr not ↦ elim (cases_eq number cut) [
    | inl same ↦ (let is = by_same number cut enough same in let most = choice_most enough in omega (arith, is, most))
    | inr other ↦ (let is = by_more number cut enough (omega (arith, not, other)) in omega (arith, is))
  ]
]

place_most : (p d number cut : ℕ) (enough : Bool) → by_place p d number cut enough ≤ 255
place_most p d number cut enough = elim (cases_lt p d) [
  | inl less ↦ (let is = at_before p d number cut enough less in omega (arith, is))
  | inr not ↦ elim (cases_eq p d) [
    | inl same ↦ (let is = at_place p d number cut enough same in let most = number_most number cut enough in omega (arith, is, most))
    | inr other ↦ (let is = at_behind p d number cut enough (omega (arith, not, other)) in omega (arith, is))
  ]
]

-- a greater number has no lesser level
number_up : (n m cut : ℕ) (b c : Bool) → m < n → by_number m cut c ≤ by_number n cut b
number_up n m cut b c less = elim (cases_lt m cut) [
  | inl early ↦ (let is = by_less m cut c early in omega (arith, is))
  | inr not ↦ (let is = by_more n cut b (omega (arith, not, less)) in let most = number_most m cut c in omega (arith, is, most))
]

-- of two that have the number of the cut
choice_up : (b c : Bool) → (if b then 0 else 1) < (if c then 0 else 1) → (b ≡ true) × (c ≡ false)
choice_up true true less = absurd (omega (arith, less))
choice_up true false less = (refl, refl)
choice_up false true less = absurd (omega (arith, less))
choice_up false false less = absurd (omega (arith, less))

lt_true : (n m : ℕ) → nat_lt n m ≡ true → n < m
lt_true n m is = elim (cases_lt n m) [ inl less ↦ less | inr not ↦ absurd (let w : false ≡ true = sym (lt_no n m not) ∙ is in cc) ]

lt_false : (n m : ℕ) → nat_lt n m ≡ false → m ≤ n
lt_false n m is = elim (cases_lt n m) [ inl less ↦ absurd (let w : true ≡ false = sym (lt_yes n m less) ∙ is in cc) | inr not ↦ not ]

-- the lesser key goes before
lesser_beats : (g : Ledger) (keys : List Key) (d rounds x y : ℕ) → IsLedger g → AreKeysAt g d rounds keys → x < total g → y < total g → place g x ≡ d → place g y ≡ d
    → (key_in keys x).number < (key_in keys y).number → BeatsIn g x y
lesser_beats g keys d rounds x y h are l m x_at y_at less =
    let a = ap (λ k. k.number) (are.at x l x_at) in
    let b = ap (λ k. k.number) (are.at y m y_at) in
    let ne : x ≢ y = λ same. (let twice = ap (λ z. (key_in keys z).number) same in omega (arith, less, twice)) in
    let told = (rank_keys_tell d rounds (rank g x) (rank g y) (rank_in g x h l) (rank_in g y h m)).less (omega (arith, less, a, b)) in
    sym (rank_order g x y h l m ne) ∙ first_greater _ _ told

-- of equal whole keys that of the lower number goes before
lower_beats : (g : Ledger) (keys : List Key) (d rounds x y : ℕ) → IsLedger g → AreKeysAt g d rounds keys → x < total g → y < total g → place g x ≡ d → place g y ≡ d
    → (key_in keys x).number ≡ (key_in keys y).number → (key_in keys x).whole ≡ true → (key_in keys y).whole ≡ true → x < y → BeatsIn g x y
lower_beats g keys d rounds x y h are l m x_at y_at same x_whole y_whole lower =
    let a = are.at x l x_at in
    let b = are.at y m y_at in
    let told = (rank_keys_tell d rounds (rank g x) (rank g y) (rank_in g x h l) (rank_in g y h m)).same (sym (ap (λ k. k.number) a) ∙ same ∙ ap (λ k. k.number) b) (sym (ap (λ k. k.whole) a) ∙ x_whole)
    (sym (ap (λ k. k.whole) b) ∙ y_whole) in
    let first : tie_cmp (rank g x) (rank g y) ≡ Greater = first_greater _ _ (number_greater x y lower) in
    sym (rank_order g x y h l m (λ e. omega (arith, lower, e)))
    ∙ ap (λ o. ordering_then o (tie_cmp (rank g x) (rank g y))) told ∙ first

-- levels order contending tasks
pub are_levels : (g : Ledger) (keys : List Key) (d rounds number end : ℕ) → IsLedger g → AreKeysAt g d rounds keys → 0 < d → d < 255
    → (0 < end → (x : ℕ) → x < total g → place g x ≡ d → (key_in keys x).number ≡ number → (key_in keys x).whole ≡ true) → ArePlacesOf g (level g keys d number end)
are_levels g keys d rounds number end h are some few whole =
    let places = are_places g h in
    record {
      urgent = λ x l u. (let is = places.urgent x l u in at_before (place g x) d (key_in keys x).number number (nat_lt x end) (omega (arith, is, some)));
      tnegru = λ x l t. (let is = places.tnegru x l t in at_behind (place g x) d (key_in keys x).number number (nat_lt x end) (omega (arith, is, few)));
      beats = λ x y l m x_class y_class nearer.
          (let n = (key_in keys x).number in
          let o = (key_in keys y).number in
          let y_most = place_most (place g y) d o number (nat_lt y end) in
          elim (cases_lt (place g y) d) [
            | inl y_before ↦ absurd (let is = at_before (place g y) d o number (nat_lt y end) y_before in omega (arith, is, nearer))
            | inr y_from ↦ elim (cases_lt (place g x) d) [
              | inl x_before ↦ places.beats x y l m x_class y_class (omega (arith, x_before, y_from))
              | inr x_from ↦ elim (cases_eq (place g x) d) [
                | inr x_other ↦ absurd (let is = at_behind (place g x) d n number (nat_lt x end) (omega (arith, x_from, x_other)) in omega (arith, is, nearer, y_most))
                | inl x_at ↦ elim (cases_eq (place g y) d) [
                  | inr y_other ↦ places.beats x y l m x_class y_class (omega (arith, x_at, y_from, y_other))
                  | inl y_at ↦
                      (let p = at_place (place g x) d n number (nat_lt x end) x_at in
                      let q = at_place (place g y) d o number (nat_lt y end) y_at in
                      elim (cases_lt n o) [
                        | inl less ↦ lesser_beats g keys d rounds x y h are l m x_at y_at less
                        | inr not ↦ elim (cases_eq n o) [
                          | inr other ↦ absurd (let up = number_up n o number (nat_lt x end) (nat_lt y end) (omega (arith, not, other)) in omega (arith, up, p, q, nearer))
                          | inl same ↦ elim (cases_eq n number) [
                            | inl at ↦
                                (let r = by_same n number (nat_lt x end) at in
                                let s = by_same o number (nat_lt y end) (sym same ∙ at) in
                                let c = choice_up (nat_lt x end) (nat_lt y end) (omega (arith, nearer, p, q, r, s)) in
                                let early = lt_true x end c.0 in
                                let late = lt_false y end c.1 in
                                lower_beats g keys d rounds x y h are l m x_at y_at same (whole (omega (arith, early)) x l x_at at) (whole (omega (arith, early)) y m y_at (sym same ∙ at)) (omega (arith, early, late)))
                            | inr apart ↦ absurd
                                (elim (cases_lt n number) [
                                  | inl lesser ↦ (let s = by_less o number (nat_lt y end) (omega (arith, lesser, same)) in omega (arith, s, q, nearer))
                                  | inr more ↦
                                      (let r = by_more n number (nat_lt x end) (omega (arith, more, apart)) in omega (arith, r, p, nearer, y_most))
                                ])
                          ]
                        ]
                      ])
                ]
              ]
            ]
          ]);
    }

-- the marks of what is below a cut by any places, and of what a pivot picks at it, are PF's row
near_row : (g : Ledger) (near : ℕ → ℕ) (d k : ℕ) (new : List ℕ) (o : Option Parts) → IsLedger g → ArePlacesOf g near → 0 < d → d < 255 → IsPivotFor (ranks_if (λ x. near x == d) (total g) g) k o →
    count (total g) (λ x. nat_lt (near x) d) + k ≡ g.set.workers → length new ≡ total g → ((x : ℕ) → x < total g → marked_in new x ≡ cut_set g near d o x) → IsPfRow g (members (length new) (marked_in new))
near_row g near d k new o h are some few p all long marks = record {
  set = cut_set g near d o;
  pf = cut_pf g near d k o h are some few p all;
  is = ap (λ n. members n (marked_in new)) long ∙ members-same (total g) (marked_in new) (cut_set g near d o) marks;
}

-- the marks by levels, and the ranks that tie, are ready for the workers left
pub ready_split : (g : Ledger) (keys : List Key) (d rounds number end m marked : ℕ) (places marks : List ℕ) (rs : List Parts) → IsLedger g → AreKeysAt g d rounds keys → 0 < d → d < 255
    → AreSplit g keys d number end places rs → m ≡ g.set.workers → marked ≡ below places d → marked ≤ m → m - marked ≤ length rs → length marks ≡ length places
    → ((x : ℕ) → x < length places → marked_in marks x ≡ nat_lt (slice_index_or places x 0) d) → IsReady g (m - marked) marks rs
ready_split g keys d rounds number end m marked places marks rs h are some few split m_is marked_is enough within long before =
    let near = level g keys d number end in
    let is = are_levels g keys d rounds number end h are some few split.whole in
    let n = split.long in
    let all : marked ≡ count (total g) (λ x. nat_lt (near x) 1) =
    marked_is ∙ ap (λ k. count k (λ x. nat_lt (slice_index_or places x 0) d)) n ∙ count-same (total g) (λ x. nat_lt (slice_index_or places x 0) d) (λ x. nat_lt (near x) 1) split.before in
    let sum : count (total g) (λ x. nat_lt (near x) 1) + (m - marked) ≡ g.set.workers = omega (arith, all, enough, m_is) in
    let here : (x : ℕ) → x < total g → marked_in marks x ≡ nat_lt (near x) 1 = λ x l. before x (omega (arith, n, l)) ∙ split.before x l in
    let Ranks : List Parts → Type 0 = λ l. IsReady g (m - marked) marks l in
    let Below : ℕ → Type 0 = λ k. All (λ q. q.id < k) (ranks_if (λ x. near x == 1) (total g) g) in
    let Ids : List Parts → Type 0 = λ l. All (λ q. q.id < length marks) l in
    elim (cases_eq end 0) [
      | inl zero_is ↦
          (let same = split.ranks zero_is in
          subst Ranks (sym same) (record {
            long = long ∙ n;
            within = (let size = ap length same in omega (arith, within, size));
            ids = subst Below (sym (long ∙ n)) (ranks_below_if (λ x. near x == 1) (total g) g);
            row = λ new placed. near_row g near 1 (m - marked) new placed.pivot h is (omega arith) (omega arith) placed.best sum (placed.long ∙ long ∙ n) (λ x l.
                placed.marks x (omega (arith, n, l, long))
                ∙ ap (λ b. b || id_in (top (ranks_if (λ y. near y == 1) (total g) g) (m - marked) placed.pivot placed.best) x) (here x l)
                ∙ ap (λ b. nat_lt (near x) 1 || b) (top_in g (λ y. near y == 1) (m - marked) placed.pivot placed.best x l)
                ∙ cut_or (nat_lt (near x) 1) (near x == 1) (reaches placed.pivot (rank g x)));
          }))
      | inr other ↦
          (let empty = split.none (omega (arith, other)) in
          let no_more : m - marked ≡ 0 = (let size = ap length empty in omega (arith, within, size)) in
          record {
            long = long ∙ n;
            within = within;
            ids = subst Ids (sym empty) (All-nil (λ q. q.id < length marks));
            row = λ new placed. near_row g near 1 (m - marked) new None h is (omega arith) (omega arith) no_more sum (placed.long ∙ long ∙ n) (λ x l.
                placed.marks x (omega (arith, n, l, long))
                ∙ ap (λ b. marked_in marks x || b) (no_place rs (m - marked) placed.pivot placed.best no_more x)
                ∙ or_false (marked_in marks x)
                ∙ here x l ∙ sym (cut_none (near x) 1));
          })
    ]

-- the tasks below x are split
pub record SplitTo (g : Ledger) (keys : List Key) (d number end x : ℕ) (places : List ℕ) (found : List Parts) : Type 0 where
  pub long : length places ≡ total g
  pub left : (y : ℕ) → x ≤ y → y < total g → slice_index_or places y 0 ≡ place g y
  pub done : (y : ℕ) → y < x → nat_lt (slice_index_or places y 0) d ≡ nat_lt (level g keys d number end y) 1
  pub ranks : end ≡ 0 → found ≡ ranks_if (λ y. level g keys d number end y == 1) x g
  pub none : 0 < end → found ≡ []
  pub whole : 0 < end → (y : ℕ) → y < x → place g y ≡ d → (key_in keys y).number ≡ number → (key_in keys y).whole ≡ true

pub split_start : (g : Ledger) (keys : List Key) (d number end : ℕ) (places : List ℕ) (found : List Parts) → ArePlacesIn g places → found ≡ [] → SplitTo g keys d number end 0 places found
split_start g keys d number end places found at empty = record {
  long = at.long;
  left = λ y low l. at.at y l;
  done = λ y l. absurd (omega (arith, l));
  ranks = λ _. empty;
  none = λ _. empty;
  whole = λ _ y l. absurd (omega (arith, l));
}

-- one task more
pub split_step : (g : Ledger) (keys : List Key) (d number end x : ℕ) (places new : List ℕ) (found more : List Parts) → SplitTo g keys d number end x places found → x < total g
    → length new ≡ length places → ((y : ℕ) → y ≢ x → slice_index_or new y 0 ≡ slice_index_or places y 0)
    → nat_lt (slice_index_or new x 0) d ≡ nat_lt (level g keys d number end x) 1
    → (end ≡ 0 → more ≡ found ++ if_rank (level g keys d number end x == 1) (rank g x)) → (0 < end → more ≡ found)
    → (0 < end → place g x ≡ d → (key_in keys x).number ≡ number → (key_in keys x).whole ≡ true) → SplitTo g keys d number end (x + 1) new more
split_step g keys d number end x places new found more h l size same here ranks none whole =
    let q : ℕ → Bool = λ y. level g keys d number end y == 1 in
    record {
      long = size ∙ h.long;
      left = λ y low m. same y (λ e. omega (arith, low, e)) ∙ h.left y (omega (arith, low)) m;
      done = λ y m. elim (cases_eq y x) [
        | inl at ↦ (let P : ℕ → Type 0 = λ z. nat_lt (slice_index_or new z 0) d ≡ nat_lt (level g keys d number end z) 1 in subst P (sym at) here)
        | inr other ↦ ap (λ n. nat_lt n d) (same y other) ∙ h.done y (omega (arith, m, other))
      ];
      ranks = λ z. ranks z ∙ ranks_more_if q x g (q x) found (h.ranks z) refl;
      none = λ z. none z ∙ h.none z;
      whole = λ z y m y_at is. elim (cases_eq y x) [
        | inl at ↦
            (let P : ℕ → Type 0 = λ v. place g v ≡ d → (key_in keys v).number ≡ number → (key_in keys v).whole ≡ true in
            let here : P x = whole z in subst P (sym at) here y_at is)
        | inr other ↦ h.whole z y (omega (arith, m, other)) y_at is
      ];
    }

-- a task at another place is before the cut or behind it already
level_other : (g : Ledger) (keys : List Key) (d number end x : ℕ) → place g x ≢ d
    → (nat_lt (place g x) d ≡ nat_lt (level g keys d number end x) 1) × ((level g keys d number end x == 1) ≡ false)
level_other g keys d number end x other =
    let n = (key_in keys x).number in
    let v = level g keys d number end x in
    elim (cases_lt (place g x) d) [
      | inl less ↦
          (let is = at_before (place g x) d n number (nat_lt x end) less in
          (lt_yes (place g x) d less ∙ sym (lt_yes v 1 (omega (arith, is))), eq_no v 1 (λ e. omega (arith, is, e))))
      | inr not ↦
          (let is = at_behind (place g x) d n number (nat_lt x end) (omega (arith, not, other)) in
          (lt_no (place g x) d not ∙ sym (lt_no v 1 (omega (arith, is))), eq_no v 1 (λ e. omega (arith, is, e))))
    ]

-- tasks at other places change nothing
split_by : (g : Ledger) (keys : List Key) (d number end x k : ℕ) (places : List ℕ) (found : List Parts) → SplitTo g keys d number end x places found → x + k ≤ total g → IsNowhere places d x (x + k)
    → SplitTo g keys d number end (x + k) places found
split_by g keys d number end x zero places found h le none =
    let P : ℕ → Type 0 = λ n. SplitTo g keys d number end n places found in
    let same : x ≡ x + zero = omega arith in
    subst P same h
split_by g keys d number end x (suc k) places found h le none =
    let P : ℕ → Type 0 = λ n. SplitTo g keys d number end n places found in
    let same : x + k + 1 ≡ x + suc k = omega arith in
    let l : x + k < total g = omega (arith, le) in
    let before = split_by g keys d number end x k places found h (omega (arith, le)) (λ y low high. none y low (omega (arith, high))) in
    let is = before.left (x + k) (omega arith) l in
    let other : place g (x + k) ≢ d = λ e. none (x + k) (omega arith) (omega arith) (is ∙ e) in
    let o = level_other g keys d number end (x + k) other in
    subst P same
    (split_step g keys d number end (x + k) places places found found before l refl (λ y _. refl) (ap (λ n. nat_lt n d) is ∙ o.0)
    (λ _. sym (append-nil found) ∙ ap (λ b. found ++ if_rank b (rank g (x + k))) (sym o.1)) (λ _. refl) (λ _ e. absurd (other e)))

pub split_to : (g : Ledger) (keys : List Key) (d number end x n : ℕ) (places : List ℕ) (found : List Parts) → SplitTo g keys d number end x places found → x ≤ n → n ≤ total g → IsNowhere places d x n
    → SplitTo g keys d number end n places found
split_to g keys d number end x n places found h low high none =
    let P : ℕ → Type 0 = λ m. SplitTo g keys d number end m places found in
    let same : x + (n - x) ≡ n = omega (arith, low) in
    subst P same (split_by g keys d number end x (n - x) places found h (omega (arith, low, high)) (λ y from to. none y from (omega (arith, to, low))))

-- all tasks are split
pub split_all : (g : Ledger) (keys : List Key) (d number end x : ℕ) (places : List ℕ) (found : List Parts) → SplitTo g keys d number end x places found → x ≡ total g → AreSplit g keys d number end places found
split_all g keys d number end x places found h is = record {
  long = h.long;
  before = λ y l. h.done y (omega (arith, l, is));
  ranks = λ z. h.ranks z ∙ ap (λ n. ranks_if (λ y. level g keys d number end y == 1) n g) is;
  none = h.none;
  whole = λ z y l. h.whole z y (omega (arith, l, is));
}

-- a task at the place by its number
pub level_at : (g : Ledger) (keys : List Key) (d number end x : ℕ) → place g x ≡ d → level g keys d number end x ≡ by_number (key_in keys x).number number (nat_lt x end)
level_at g keys d number end x at = at_place (place g x) d (key_in keys x).number number (nat_lt x end) at

-- a task at the place that runs
pub step_runs : (g : Ledger) (keys : List Key) (d number end x : ℕ) (places : List ℕ) (found : List Parts) → SplitTo g keys d number end x places found → x < total g → 0 < d
    → level g keys d number end x ≡ 0 → (0 < end → (key_in keys x).number ≡ number → (key_in keys x).whole ≡ true) → SplitTo g keys d number end (x + 1) (set places x 0) found
step_runs g keys d number end x places found h l some is whole =
    let v = level g keys d number end x in
    let size = h.long in
    let here : slice_index_or (set places x 0) x 0 ≡ 0 = get_or-set_same places x 0 0 (omega (arith, l, size)) in
    split_step g keys d number end x places (set places x 0) found found h l (length-set places x 0) (λ y other. get_or-set_other places x y 0 0 other)
    (lt_yes _ d (omega (arith, here, some)) ∙ sym (lt_yes v 1 (omega (arith, is))))
    (λ _. sym (append-nil found) ∙ ap (λ b. found ++ if_rank b (rank g x)) (sym (eq_no v 1 (λ e. omega (arith, is, e))))) (λ _. refl) (λ z _ same. whole z same)

-- one that doesn't, and isn't compared
pub step_stays : (g : Ledger) (keys : List Key) (d number end x : ℕ) (places : List ℕ) (found : List Parts) → SplitTo g keys d number end x places found → x < total g → place g x ≡ d
    → 0 < level g keys d number end x → (end ≡ 0 → 1 < level g keys d number end x) → (0 < end → (key_in keys x).number ≡ number → (key_in keys x).whole ≡ true)
    → SplitTo g keys d number end (x + 1) places found
step_stays g keys d number end x places found h l at is other whole =
    let v = level g keys d number end x in
    let here = h.left x (omega arith) l in
    split_step g keys d number end x places places found found h l refl (λ y _. refl)
    (lt_no _ d (omega (arith, here, at)) ∙ sym (lt_no v 1 (omega (arith, is))))
    (λ z. (let more = other z in sym (append-nil found) ∙ ap (λ b. found ++ if_rank b (rank g x)) (sym (eq_no v 1 (λ e. omega (arith, more, e)))))) (λ _. refl) (λ z _ same. whole z same)

-- one that is compared
pub step_ties : (g : Ledger) (keys : List Key) (d number end x : ℕ) (places : List ℕ) (found : List Parts) → SplitTo g keys d number end x places found → x < total g → place g x ≡ d
    → level g keys d number end x ≡ 1 → end ≡ 0 → SplitTo g keys d number end (x + 1) places (found ++ rank g x ∷ [])
step_ties g keys d number end x places found h l at is none =
    let v = level g keys d number end x in
    let here = h.left x (omega arith) l in
    split_step g keys d number end x places places found (found ++ rank g x ∷ []) h l refl (λ y _. refl)
    (lt_no _ d (omega (arith, here, at)) ∙ sym (lt_no v 1 (omega (arith, is))))
    (λ _. ap (λ b. found ++ if_rank b (rank g x)) (sym (eq_yes v 1 is))) (λ z. absurd (omega (arith, z, none))) (λ z _ _. absurd (omega (arith, z, none)))

-- the next task at the place
pub split_next : (g : Ledger) (keys : List Key) (d number end x n : ℕ) (places new : List ℕ) (found more : List Parts) → SplitTo g keys d number end x places found → new ≡ places → more ≡ found
    → IsFirstFrom new d x n → (n ≤ total g) × ((n < total g → place g n ≡ d) × SplitTo g keys d number end n new more)
split_next g keys d number end x n places new found more h new_is more_is next =
    let P : List ℕ → Type 0 = λ l. SplitTo g keys d number end x l more in
    let Q : List Parts → Type 0 = λ l. SplitTo g keys d number end x places l in
    let here = subst P (sym new_is) (subst Q (sym more_is) h) in
    let size = here.long in
    let to = split_to g keys d number end x n new more here next.low (omega (arith, next.high, size)) next.none in
    (omega (arith, next.high, size), ((λ l. sym (to.left n (omega arith) l) ∙ next.found (omega (arith, l, size))), to))

-- keys that are shown elsewhere
pub keys_shown : (g : Ledger) (d rounds : ℕ) (keys shown : List Key) → shown ≡ keys → AreKeysAt g d rounds keys → AreKeysAt g d rounds shown
keys_shown g d rounds keys shown is h = (let P : List Key → Type 0 = λ l. AreKeysAt g d rounds l in subst P (sym is) h)
