use Rattle.std.proofs.Common.{◌≡◌, ◌∙◌, ◌+◌, ◌≤◌, ◌==◌, ℕ, List, [], length, Option, Some, None, refl, sym, ap, ap₂, lit<, arith}
use Rattle.std.specs.List.{before_first, after_first, position_or_len}
use Rattle.std.proofs.lemmas.List.{drop_all}
use Rattle.std.proofs.lemmas.Str.Pattern.{split_once_first}
use Rattle.pfx_kinds_decimal.specs.Numerals.{number_in}
use Rattle.pfx_program_script.specs.Weights.{number_within, paired, weight_in}
use Rattle.pfx_program_script.proofs.WeightLemmas.{weight_by}
use Rattle.pfx_program_script.proofs.weights.weight_in.Goals as goal

nothing_within : number_within [] ≡ None
unfolding number_in
nothing_within = refl

paired_none : (e : Option ℕ) → paired e None ≡ None
paired_none None = refl
paired_none (Some e) = refl

-- behind no slash there is no number
no_slash : (text : List ℕ) → position_or_len (λ b. b == 47) text ≡ length text → weight_in text ≡ None
no_slash text e =
    let past : length text ≤ position_or_len (λ b. b == 47) text + 1 = omega arith in
    let front = number_within (before_first (λ b. b == 47) text) in
    weight_by text (before_first (λ b. b == 47) text) (after_first (λ b. b == 47) text) refl refl
    ∙ ap (λ rest. paired front (number_within rest)) (drop_all (position_or_len (λ b. b == 47) text + 1) text past) ∙ ap (paired front) nothing_within ∙ paired_none front

pub returns-in_err-share : goal.returns-in_err-share
returns-in_err-share c =
    let cut = split_once_first 47 c.args.text.now c.split_once.result c.split_once.ensures.cases (lit< tt) in
    c.from_residual.ensures ∙ sym (no_slash c.args.text.now (rw c.in_err-share.was at cut))

pub returns-in_err-share-2 : goal.returns-in_err-share-2
returns-in_err-share-2 c =
    let cut = split_once_first 47 c.args.text.now c.split_once.result c.split_once.ensures.cases (lit< tt) in
    let found = rw c.in_ok-share.was at cut in
    let front = c.in_ok-share.share.now in
    let rest = c.in_ok-share.period.now in
    let none : number_within front ≡ None = sym c.number_within.ensures ∙ c.in_err-share-2.was in
    c.from_residual-in_err-share-2.ensures ∙ sym (weight_by c.args.text.now front rest found.1 found.2 ∙ ap (λ e. paired e (number_within rest)) none)

pub returns-in_err-period : goal.returns-in_err-period
returns-in_err-period c =
    let cut = split_once_first 47 c.args.text.now c.split_once.result c.split_once.ensures.cases (lit< tt) in
    let found = rw c.in_ok-share.was at cut in
    let front = c.in_ok-share.share.now in
    let rest = c.in_ok-share.period.now in
    let none : number_within rest ≡ None = sym c.number_within-2.ensures ∙ c.in_err-period.was in
    c.from_residual-in_err-period.ensures ∙ sym (weight_by c.args.text.now front rest found.1 found.2 ∙ ap (paired (number_within front)) none ∙ paired_none (number_within front))

pub returns : goal.returns
returns c =
    let cut = split_once_first 47 c.args.text.now c.split_once.result c.split_once.ensures.cases (lit< tt) in
    let found = rw c.in_ok-share.was at cut in
    let front = c.in_ok-share.share.now in
    let rest = c.in_ok-share.period.now in
    let e : number_within front ≡ Some c.in_ok-share-2.share = sym c.number_within.ensures ∙ c.in_ok-share-2.was in
    let p : number_within rest ≡ Some c.in_ok-period.period = sym c.number_within-2.ensures ∙ c.in_ok-period.was in
    sym (weight_by c.args.text.now front rest found.1 found.2 ∙ ap₂ paired e p)
