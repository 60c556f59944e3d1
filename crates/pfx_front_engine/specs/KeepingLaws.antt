-- What is kept of no command, of some commands and then of more: that it is.
use Rattle.std.proofs.Common.{◌≡◌, ◌⊎◌, ◌≤◌, ℕ, ◌+◌, ◌++◌, List, [], ◌∷◌, length}
use Rattle.std.proofs.Common.{length-append, refl, sym, ap, subst, ◌∙◌, arith, inl, inr, append_assoc, append-nil}
use Rattle.pfx_book.specs.Notes.{Noted, added, alone, commands_of}
use Rattle.pfx_book.specs.declared.note.Note.{Note}
use Rattle.pfx_book.specs.declared.note.Note.TheVariants.{Receipt}
use Rattle.pfx_book.proofs.Notes.{noted_more}
use Rattle.pfx_machine.specs.declared.command.Command.{Command}
use Rattle.pfx_front_engine.specs.Keeping.{HasReceipt, KeepsBy}

pub commands_both : {J : Type 0} (xs ys : List (ℕ × Note J)) → commands_of (xs ++ ys) ≡ commands_of xs ++ commands_of ys
commands_both [] ys = refl
commands_both {J = J} (x ∷ xs) ys = ap (λ (l : List (Command J)). added x.1 ++ l) (commands_both xs ys)
    ∙ sym (append_assoc (added x.1) (commands_of xs) (commands_of ys))

pub receipt_later : {J : Type 0} (b c : List (Note J)) (later : List (ℕ × Note J)) (n m : ℕ) → alone c ≡ alone b ++ later → m ≤ n → HasReceipt b n
    → HasReceipt c m
receipt_later {J = J} b c later n m grows le h =
    let high = h.high in
    record {
      number = h.number;
      clock = h.clock;
      high = omega (arith, high, le);
      noted = subst (λ (l : List (ℕ × Note J)). Noted (1, Receipt h.number h.clock) l) (sym grows) (noted_more _ (alone b) later h.noted);
    }

pub keeps_none : {J : Type 0} (first : ℕ) (notes : List (Note J)) → KeepsBy first notes [] 0 notes
keeps_none first notes = record { later = []; grows = sym (append-nil (alone notes)); commands = refl; receipt = inl refl }

pub keeps_more : {J : Type 0} (first : ℕ) (a b c : List (Note J)) (H G : List (Command J)) (n : ℕ) → KeepsBy first a H (length H) b
    → KeepsBy first b G n c → KeepsBy first a (H ++ G) (length H + n) c
keeps_more {J = J} first a b c H G n one two = record {
  later = one.later ++ two.later;
  grows = two.grows ∙ ap (λ l. l ++ two.later) one.grows ∙ append_assoc (alone a) one.later two.later;
  commands = commands_both one.later two.later ∙ ap (λ l. l ++ commands_of two.later) one.commands ∙ ap (λ l. H ++ l) two.commands;
  receipt = by n two.receipt one.receipt;
}
  where
    long : length (commands_of (alone b)) ≡ length (commands_of (alone a)) + length H
    long = ap (λ l. length (commands_of l)) one.grows ∙ ap length (commands_both (alone a) one.later)
        ∙ length-append (commands_of (alone a)) (commands_of one.later)
        ∙ ap (λ (l : List (Command J)). length (commands_of (alone a)) + length l) one.commands

    by : (k : ℕ) → (k ≡ 0) ⊎ HasReceipt c (first + (length (commands_of (alone b)) + k))
        → (length H ≡ 0) ⊎ HasReceipt b (first + (length (commands_of (alone a)) + length H))
        → (length H + k ≡ 0) ⊎ HasReceipt c (first + (length (commands_of (alone a)) + (length H + k)))
    by k (inr h) was = inr (subst (HasReceipt c) (omega (arith, long)) h)
    by k (inl none) (inl empty) = inl (omega (arith, none, empty))
    by k (inl none) (inr h) = inr (receipt_later b c two.later _ _ two.grows (omega (arith, none)) h)

pub keeps_fewer : {J : Type 0} (first : ℕ) (a : List (Note J)) (H : List (Command J)) (n m : ℕ) (b : List (Note J)) → m ≤ n
    → KeepsBy first a H n b → KeepsBy first a H m b
keeps_fewer first a H n m b le h = record { later = h.later; grows = h.grows; commands = h.commands; receipt = by h.receipt }
  where
    by : (n ≡ 0) ⊎ HasReceipt b (first + (length (commands_of (alone a)) + n)) → (m ≡ 0) ⊎ HasReceipt b (first + (length (commands_of (alone a)) + m))
    by (inl none) = inl (omega (arith, none, le))
    by (inr r) = inr (let high = r.high in record { number = r.number; clock = r.clock; high = omega (arith, high, le); noted = r.noted })
