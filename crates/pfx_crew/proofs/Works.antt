-- What was taken and handed back, one quantum more.
use Rattle.std.proofs.Common.{◌≡◌, List, [], ◌∷◌, ◌++◌, map, Bool, true, false, sym, ap, ◌∙◌, subst, arith, append-nil, append_assoc}
use Rattle.std.proofs.lemmas.List.{map-append}
use Rattle.pfx_machine.specs.Slots.{Deal}
use Rattle.pfx_crew.specs.Work.{Serves, Works}

module _ {Q D J : Type 0} (f : Q → Deal J) (g : D → Deal J) where
  pub served : (tb t : List Q) (hb h : List D) (q : Q) (d : D) → t ≡ tb ++ q ∷ [] → h ≡ hb ++ d ∷ [] → g d ≡ f q → Serves true (map f tb) (map f t) (map g hb) (map g h)
  served tb t hb h q d took handed same = (
    f q,
    ap (map f) took ∙ map-append f tb (q ∷ []),
    ap (map g) handed ∙ map-append g hb (d ∷ []) ∙ ap (λ x. map g hb ++ x ∷ []) same,
  )

  pub unserved : (tb t : List Q) (hb h : List D) (q : Q) → t ≡ tb ++ q ∷ [] → h ≡ hb → Serves false (map f tb) (map f t) (map g hb) (map g h)
  unserved tb t hb h q took handed = (f q ∷ [], ap (map f) took ∙ map-append f tb (q ∷ []), ap (map g) handed, omega arith)

module _ {J : Type 0} where
  -- all that was taken was answered
  abbrev pub AllServed : List (Deal J) → List (Deal J) → List (Deal J) → List (Deal J) → Type 0
  AllServed tb t hb h = (quanta : List (Deal J)) × (t ≡ tb ++ quanta) × (h ≡ hb ++ quanta)

  pub none_served : (t h : List (Deal J)) → AllServed t t h h
  none_served t h = ([], sym (append-nil t), sym (append-nil h))

  pub one_more : (tb t t' hb h h' : List (Deal J)) (b : Bool) → b ≡ true → AllServed tb t hb h → Serves b t t' h h' → AllServed tb t' hb h'
  one_more tb t t' hb h h' b is (quanta, took, handed) serves =
      let more = subst (λ x. Serves x t t' h h') is serves in (
        quanta ++ more.0 ∷ [],
        more.1 ∙ ap (λ l. l ++ more.0 ∷ []) took ∙ append_assoc tb quanta (more.0 ∷ []),
        more.2 ∙ ap (λ l. l ++ more.0 ∷ []) handed ∙ append_assoc hb quanta (more.0 ∷ []),
      )

  pub stops : (tb t t' hb h h' : List (Deal J)) (b : Bool) → b ≡ false → AllServed tb t hb h → Serves b t t' h h' → Works tb t' hb h'
  stops tb t t' hb h h' b is (quanta, took, handed) serves =
      let last = subst (λ x. Serves x t t' h h') is serves in (
        quanta,
        last.0,
        last.1 ∙ ap (λ l. l ++ last.0) took ∙ append_assoc tb quanta last.0,
        last.2 ∙ handed,
        last.3,
      )
