-- What device calls lead to.
use Rattle.std.specs.Prelude.{◌≡◌, ℕ, List, [], ◌∷◌, ◌++◌, length, refl}
use Rattle.std.proofs.Common.{sym, ◌∙◌, ap, subst, inl}
use Rattle.pfx_machine.specs.Plain.{Plain}
use Rattle.pfx_disk.specs.Disk.{Torn}
use Rattle.pfx_disk.specs.Stop.{Act, Sync, Write, Look, contents_after, Left}
use Rattle.pfx_disk.proofs.Left.{contents_more, left_more}
use Rattle.pfx_events_world.specs.Setting.{Setting, Settled, Leads, IsSound}

pub acts-nil : (xs : List Act) → xs ++ [] ≡ xs
acts-nil [] = refl
acts-nil (x ∷ xs) = ap (λ t. x ∷ t) (acts-nil xs)

-- one more call
pub left-synced : (start : List ℕ) (done : List Act) (image : List ℕ) → Left start (done ++ Sync ∷ []) image → image ≡ contents_after start done
left-synced start done image is = left_more start (λ i. i ≡ start) done (Sync ∷ []) image is

pub left-written : (start : List ℕ) (done : List Act) (at : ℕ) (bytes : List ℕ) (image : List ℕ) → Left start (done ++ Write at bytes ∷ []) image → (d : List ℕ) × Left start done d × Torn at (length bytes) d image
left-written start done at bytes image is = left_more start (λ i. i ≡ start) done (Write at bytes ∷ []) image is

pub left-looked : (start : List ℕ) (done : List Act) (image : List ℕ) → Left start (done ++ Look ∷ []) image → Left start done image
left-looked start done image is = left_more start (λ i. i ≡ start) done (Look ∷ []) image is

module _ {J : Type 0} (S : Setting J) (sound : IsSound S) where
  -- no call
  pub leads_nowhere : (s : Plain J) (p : S.Parts) → Leads S s p [] s p
  leads_nowhere s p = record {
    during = λ start done gone coming settled is image left. inl (p, settled.each image (subst (λ l. Left start l image) (ap (λ g. done ++ g) (none gone coming is) ∙ acts-nil done) left));
    ends = λ start done settled. subst (λ l. Settled S start l s p) (sym (acts-nil done)) settled;
  }
    where
      none : (gone coming : List Act) → gone ++ coming ≡ [] → gone ≡ []
      none [] coming is = refl
      none (x ∷ gone) coming is = absurd cc

  -- one more sync
  pub settled-synced : (start : List ℕ) (done : List Act) (s : Plain J) (p : S.Parts) → Settled S start done s p → Settled S start (done ++ Sync ∷ []) s p
  settled-synced start done s p settled = record {
    whole = subst (λ l. S.whole l s p) (sym (contents_more start done (Sync ∷ []))) settled.whole;
    each = λ image left. subst (λ l. S.stands l s p) (sym (left-synced start done image left)) (sound.whole_stands _ s p settled.whole);
  }

  pub leads_synced : (s : Plain J) (p : S.Parts) → Leads S s p (Sync ∷ []) s p
  leads_synced s p = record {
    during = λ start done gone coming settled is image left. inl (p, at start done gone coming settled is image left);
    ends = λ start done settled. settled-synced start done s p settled;
  }
    where
      at : (start : List ℕ) (done gone coming : List Act) → Settled S start done s p → gone ++ coming ≡ Sync ∷ [] → (image : List ℕ) → Left start (done ++ gone) image → S.stands image s p
      at start done [] coming settled is image left = settled.each image (subst (λ l. Left start l image) (acts-nil done) left)
      at start done (x ∷ []) coming settled is image left =
          let same : x ≡ Sync = cc in
          (settled-synced start done s p settled).each image (subst (λ l. Left start (done ++ l ∷ []) image) same left)
      at start done (x ∷ y ∷ gone) coming settled is image left = absurd cc

  -- one image and nothing done since
  pub settled_at : (image : List ℕ) (s : Plain J) (p : S.Parts) → S.whole image s p → Settled S image [] s p
  settled_at image s p whole = record { whole = whole; each = λ i left. subst (λ l. S.stands l s p) (sym left) (sound.whole_stands image s p whole) }
