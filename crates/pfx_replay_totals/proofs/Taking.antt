-- What is given and kept once a slot more was seen.
use Rattle.std.proofs.Common.{◌≡◌, ◌∙◌, if◌then◌else◌, true, false, Bool, List, [], ◌∷◌, ◌++◌, map, Option, Some, None, ap, ap₂, sym, subst, append_assoc, append-nil}
use Rattle.std.specs.List.{flat_map}
use Rattle.std.proofs.lemmas.List.{flat_map_more}
use Rattle.pfx_replay_totals.specs.Adding.{IsCurrent, IsLast, IsOf}
use Rattle.pfx_replay_totals.specs.Choices.{is_asked}
use Rattle.pfx_replay_totals.specs.Figures.{Figures, all_figures, figures}
use Rattle.pfx_replay_totals.specs.Slots.{Slot}
use Rattle.pfx_replay_totals.specs.Windows.{Window as Slots, alone, joins, windows, with_slot}
use Rattle.pfx_replay_totals.specs.declared.choice.Choice.{Choice}
use Rattle.pfx_replay_totals.specs.declared.window.Window.{Window}
use Rattle.pfx_replay_totals.proofs.Closing.{asked_first, asked_more, last_two, unasked}

-- nothing more was given
pub no_more : (given more : List Figures) → more ≡ [] → given ++ more ≡ given
no_more given more none = ap (λ fs. given ++ fs) none ∙ append-nil given

module _ (c : Choice) (given : List Figures) (seen : List Slot) (t : Slot) where
  pub took_first : (now : Option Window) → (kept : Window) → true ≡ is_asked c t.at → now ≡ None → IsCurrent c given seen now → IsOf (alone t) kept → IsLast c given (seen ++ t ∷ []) kept
  took_first now kept asked none h is =
      let was : IsCurrent c given seen None = subst (IsCurrent c given seen) none h in
      record { closed = []; last = alone t; are = asked_first c seen t (sym asked) was.1; given_is = was.0; kept_is = is }

  pub took_more : (now : Option Window) → (old kept : Window) → true ≡ is_asked c t.at → now ≡ Some old → IsCurrent c given seen now →
      ((w : Slots) → IsOf w old → true ≡ joins c w t) → ((w : Slots) → IsOf w old → IsOf (with_slot w t) kept) → IsLast c given (seen ++ t ∷ []) kept
  took_more now old kept asked some h join is =
      let was : IsCurrent c given seen (Some old) = subst (IsCurrent c given seen) some h in
      let w = was.last in
      record {
        closed = was.closed;
        last = with_slot w t;
        are = asked_more c seen t was.closed w (sym asked) was.are ∙ ap (λ (b : Bool). was.closed ++ (if b then with_slot w t ∷ [] else w ∷ alone t ∷ [])) (sym (join w was.kept_is));
        given_is = was.given_is;
        kept_is = is w was.kept_is;
      }

  pub took_next : (now : Option Window) → (old kept : Window) → true ≡ is_asked c t.at → now ≡ Some old → IsCurrent c given seen now →
      ((w : Slots) → IsOf w old → false ≡ joins c w t) → IsOf (alone t) kept → IsLast c (given ++ map figures old.totals.items) (seen ++ t ∷ []) kept
  took_next now old kept asked some h join is =
      let was : IsCurrent c given seen (Some old) = subst (IsCurrent c given seen) some h in
      let w = was.last in
      record {
        closed = was.closed ++ w ∷ [];
        last = alone t;
        are = asked_more c seen t was.closed w (sym asked) was.are ∙ ap (λ (b : Bool). was.closed ++ (if b then with_slot w t ∷ [] else w ∷ alone t ∷ [])) (sym (join w was.kept_is))
            ∙ sym (append_assoc was.closed (w ∷ []) (alone t ∷ []));
        given_is = ap₂ (λ fs gs. fs ++ gs) was.given_is was.kept_is.totals ∙ flat_map_more all_figures [] was.closed w;
        kept_is = is;
      }
