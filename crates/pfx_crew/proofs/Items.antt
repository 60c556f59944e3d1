-- The items of a lane, one message more.
use Rattle.std.proofs.Common.{◌≡◌, ◌+◌, List, [], ◌∷◌, ◌++◌, refl, ap, sym, ◌∙◌, append-nil, arith}
use Rattle.pfx_crew.specs.declared.lane.Message.{Message}
use Rattle.pfx_crew.specs.declared.lane.Message.TheVariants.{Item, End}
use Rattle.pfx_crew.specs.Lane.{items_of, ends_of}

module _ {T : Type 0} where
  pub items_item : (xs : List (Message T)) (x : T) → items_of (xs ++ Item x ∷ []) ≡ items_of xs ++ x ∷ []
  items_item [] x = refl
  items_item (Item y ∷ xs) x = ap (λ l. y ∷ l) (items_item xs x)
  items_item (End ∷ xs) x = items_item xs x

  pub items_end : (xs : List (Message T)) → items_of (xs ++ End ∷ []) ≡ items_of xs
  items_end [] = refl
  items_end (Item y ∷ xs) = ap (λ l. y ∷ l) (items_end xs)
  items_end (End ∷ xs) = items_end xs

  pub items_more : (xs : List (Message T)) (m : Message T) → items_of (xs ++ m ∷ []) ≡ items_of xs ++ items_of (m ∷ [])
  items_more xs (Item x) = items_item xs x
  items_more xs End = items_end xs ∙ sym (append-nil (items_of xs))

  pub ends_more : (xs : List (Message T)) (m : Message T) → ends_of (xs ++ m ∷ []) ≡ ends_of xs + ends_of (m ∷ [])
  ends_more [] (Item x) = omega arith
  ends_more [] End = omega arith
  ends_more (Item y ∷ xs) m = ends_more xs m
  ends_more (End ∷ xs) m = let r = ends_more xs m in omega (arith, r)
