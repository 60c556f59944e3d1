-- Words that don't begin with a hyphen, at a command whose subcommands and positionals take one word each.
use Rattle.std.proofs.Common.{◌≡◌, ℕ, Bool, refl, [], ◌∷◌, List, Some, None, true, false, ap, ap₂, ◌&&◌}
use Rattle.std.specs.Prelude.{unwrap_or, slice_get, fold, ◌==◌, if◌then◌else◌}
use Rattle.std.specs.List.{list_all}
use Rattle.std.specs.Str.Parse.{starts_with_minus}
use Rattle.clap.specs.Lexer.{without_minus}
use Rattle.clap.specs.Walk.{Text, Rule, Held, Walk, Step, idle, option, value, walked, word_met, plain_word, arg_by_index, to_positional, finished, after_step}
use Rattle.clap.specs.Simple.{Shape, built, new_shape}
use Rattle.clap.specs.Takes.{word_passes, turn_passes, walk_passes, settle_passes, step_passes, default_passes, is_valid}
use Rattle.pfx_program_args.specs.Commands.{pfx_app}

-- a subcommand as the parser builds it, by its place
abbrev pub sub_built : ℕ → Shape
sub_built k = unwrap_or (slice_get (built pfx_app).subs k) (new_shape [])

abbrev pub between : Held → ℕ → Walk
between h k = record { held = h; waiting = idle; position = k; is_trailing = false; stopped = None }

-- the walk after a word that the positional takes
abbrev pub with_word : Shape → ℕ → Held → Text → Walk
with_word s k h word = to_positional s.rules (arg_by_index s.rules k) word (between h k) h

-- the walk over words, from where it stands
abbrev pub on_from : Shape → Walk → List Text → Walk
on_from s w words = fold (walked s.rules []) w words

-- a word that doesn't begin with a hyphen is a value
plain_met : (c : List Rule) (k : ℕ) (word : Text) (h : Held) → starts_with_minus word ≡ false → word_met c [] false idle k word h ≡ (h, value)
plain_met c k [] h e = refl
plain_met c k (x ∷ xs) h e = rw (e, e) refl

-- and goes to the next positional
plain_walked : (s : Shape) (h : Held) (k : ℕ) (word : Text) → starts_with_minus word ≡ false → walked s.rules [] (between h k) word ≡ with_word s k h word
unfolding walked
plain_walked s h k word e = ap (λ (met : Held × Step). after_step s.rules word (between h k) met.0 met.1) (plain_met s.rules k word h e)

pub plain_on : (s : Shape) (h : Held) (k : ℕ) (word : Text) (rest : List Text) → starts_with_minus word ≡ false
    → on_from s (between h k) (word ∷ rest) ≡ on_from s (with_word s k h word) rest
plain_on s h k word rest e = ap (λ (w : Walk). on_from s w rest) (plain_walked s h k word e)

-- it passes, where the positional before it does
plain_word_passes : (s : Shape) (word : Text) (h : Held) → starts_with_minus word ≡ false → word_passes s [] false idle word h ≡ true
plain_word_passes s [] h e = refl
plain_word_passes s (x ∷ xs) h e = rw (e, e) refl

plain_turn : (s : Shape) (k : ℕ) (word : Text) (h : Held) → starts_with_minus word ≡ false → turn_passes s [] (between h k) word ≡ step_passes s k h value
plain_turn s k word h e = ap₂ (λ (b : Bool) (met : Held × Step). b && step_passes s k met.0 met.1) (plain_word_passes s word h e) (plain_met s.rules k word h e)

pub plain_passes : (s : Shape) (h : Held) (k : ℕ) (word : Text) (rest : List Text) → starts_with_minus word ≡ false
    → walk_passes s [] (between h k) (word ∷ rest) ≡ (step_passes s k h value && walk_passes s [] (with_word s k h word) rest)
unfolding walk_passes
plain_passes s h k word rest e = ap₂ (λ (b : Bool) (w : Walk). b && walk_passes s [] w rest) (plain_turn s k word h e) (plain_walked s h k word e)

-- ---- a hyphen alone is such a word too

abbrev pub dash : Text
dash = 45 ∷ []

dash_met : (c : List Rule) (k : ℕ) (h : Held) → word_met c [] false idle k dash h ≡ (h, value)
dash_met c k h = refl

dash_walked : (s : Shape) (h : Held) (k : ℕ) → walked s.rules [] (between h k) dash ≡ with_word s k h dash
unfolding walked
dash_walked s h k = ap (λ (met : Held × Step). after_step s.rules dash (between h k) met.0 met.1) (dash_met s.rules k h)

pub dash_on : (s : Shape) (h : Held) (k : ℕ) (rest : List Text) → on_from s (between h k) (dash ∷ rest) ≡ on_from s (with_word s k h dash) rest
dash_on s h k rest = ap (λ (w : Walk). on_from s w rest) (dash_walked s h k)

dash_word_passes : (s : Shape) (h : Held) → word_passes s [] false idle dash h ≡ true
dash_word_passes s h = refl

dash_turn : (s : Shape) (k : ℕ) (h : Held) → turn_passes s [] (between h k) dash ≡ step_passes s k h value
dash_turn s k h = ap₂ (λ (b : Bool) (met : Held × Step). b && step_passes s k met.0 met.1) (dash_word_passes s h) (dash_met s.rules k h)

pub dash_passes : (s : Shape) (h : Held) (k : ℕ) (rest : List Text)
    → walk_passes s [] (between h k) (dash ∷ rest) ≡ (step_passes s k h value && walk_passes s [] (with_word s k h dash) rest)
unfolding walk_passes
dash_passes s h k rest = ap₂ (λ (b : Bool) (w : Walk). b && walk_passes s [] w rest) (dash_turn s k h) (dash_walked s h k)

-- ---- the value of an option, behind it

-- such a word is the value of the option that waits for one
plain_value_met : (c : List Rule) (id : Text) (k : ℕ) (word : Text) (h : Held) → starts_with_minus word ≡ false → word_met c [] false (option id) k word h ≡ plain_word c (option id) word h
plain_value_met c id k [] h e = refl
plain_value_met c id k (x ∷ xs) h e = rw (e, e) refl

plain_value_word_passes : (s : Shape) (id word : Text) (h : Held) → starts_with_minus word ≡ false → word_passes s [] false (option id) word h ≡ true
plain_value_word_passes s id [] h e = refl
plain_value_word_passes s id (x ∷ xs) h e = rw (e, e) refl

abbrev pub waiting_for : Text → Held → ℕ → Walk
waiting_for id h k = record { held = h; waiting = option id; position = k; is_trailing = false; stopped = None }

-- the walk after it
abbrev pub with_value : Shape → Text → Held → ℕ → Text → Walk
with_value s id h k word =
    let met = plain_word s.rules (option id) word h in
    after_step s.rules word (waiting_for id h k) met.0 met.1

pub plain_value_on : (s : Shape) (id : Text) (h : Held) (k : ℕ) (word : Text) → starts_with_minus word ≡ false → walked s.rules [] (waiting_for id h k) word ≡ with_value s id h k word
unfolding walked
plain_value_on s id h k word e = ap (λ (met : Held × Step). after_step s.rules word (waiting_for id h k) met.0 met.1) (plain_value_met s.rules id k word h e)

pub plain_value_passes : (s : Shape) (id : Text) (h : Held) (k : ℕ) (word : Text) → starts_with_minus word ≡ false
    → turn_passes s [] (waiting_for id h k) word ≡ step_passes s k (plain_word s.rules (option id) word h).0 (plain_word s.rules (option id) word h).1
plain_value_passes s id h k word e = ap₂ (λ (b : Bool) (met : Held × Step). b && step_passes s k met.0 met.1) (plain_value_word_passes s id word h e) (plain_value_met s.rules id k word h e)

-- the getter reads it as it was written
pub plain_minus : (d : ℕ) (ds : Text) → (d == 45) ≡ false → without_minus (d ∷ ds) ≡ d ∷ ds
plain_minus d ds g = ap (λ (b : Bool). unwrap_or (if b then Some ds else None) (d ∷ ds)) g

-- ---- all the words

-- what is asked of the words once they are walked over
abbrev pub ends_well : Shape → Bool → Held → Bool
ends_well s walks h = walks && (settle_passes s.rules s.args_override_self h && (list_all default_passes s.rules && is_valid s (finished s.rules h) false))

pub ends_so : (s : Shape) (walks : Bool) (h : Held) → walks ≡ true → settle_passes s.rules s.args_override_self h ≡ true → list_all default_passes s.rules ≡ true → is_valid s (finished s.rules h) false ≡ true
    → ends_well s walks h ≡ true
ends_so s walks h one two three four = λ i. one i && (two i && (three i && four i))

pub and_true : (b : Bool) → (b && true) ≡ b
and_true true = refl
and_true false = refl
