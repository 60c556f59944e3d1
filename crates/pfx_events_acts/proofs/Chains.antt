-- Lists of calls, by what is known of each image that a stop may leave and of what a read gives.
use Rattle.std.specs.Prelude.{◌≡◌, ℕ, List, [], ◌∷◌, ◌++◌, length}
use Rattle.std.proofs.Common.{sym, subst, append_assoc, append-nil}
use Rattle.pfx_disk.specs.Disk.{Torn}
use Rattle.pfx_disk.specs.Stop.{Act, Sync, Write, Look, put, contents_after, Left}
use Rattle.pfx_disk.proofs.Left.{contents_more, left_more}

pub record Steady (A AW : List ℕ → Type 0) (start : List ℕ) (done : List Act) : Type 0 where
  pub whole : AW (contents_after start done)
  pub each : (image : List ℕ) → Left start done image → A image

-- at each moment of the calls an image is one of these
abbrev pub Safe : (List ℕ → Type 0) → List ℕ → List Act → List Act → Type 0
Safe D start done [] = (image : List ℕ) → Left start done image → D image
Safe D start done (act ∷ calls) = ((image : List ℕ) → Left start done image → D image) × Safe D start (done ++ act ∷ []) calls

pub record Chain (D A AW : List ℕ → Type 0) (calls : List Act) (B BW : List ℕ → Type 0) : Type 0 where
  pub safe : (start : List ℕ) (done : List Act) → Steady A AW start done → Safe D start done calls
  pub ends : (start : List ℕ) (done : List Act) → Steady A AW start done → Steady B BW start (done ++ calls)

safe_then : (D : List ℕ → Type 0) (start : List ℕ) (done one two : List Act) → Safe D start done one → Safe D start (done ++ one) two → Safe D start done (one ++ two)
safe_then D start done [] two first second = subst (λ (l : List Act). Safe D start l two) (append-nil done) second
safe_then D start done (act ∷ one) two first second = (first.0, safe_then D start (done ++ act ∷ []) one two first.1 (subst (λ (l : List Act). Safe D start l two) (sym (append_assoc done (act ∷ []) one)) second))

safe_here : (D : List ℕ → Type 0) (start : List ℕ) (done calls : List Act) → Safe D start done calls → (image : List ℕ) → Left start done image → D image
safe_here D start done [] safe image left = safe image left
safe_here D start done (act ∷ calls) safe image left = safe.0 image left

pub safe_at : (D : List ℕ → Type 0) (start : List ℕ) (done gone coming : List Act) → Safe D start done (gone ++ coming) → (image : List ℕ) → Left start (done ++ gone) image → D image
safe_at D start done [] coming safe image left = safe_here D start done coming safe image (subst (λ (l : List Act). Left start l image) (append-nil done) left)
safe_at D start done (act ∷ gone) coming safe image left = safe_at D start (done ++ act ∷ []) gone coming safe.1 image (subst (λ (l : List Act). Left start l image) (sym (append_assoc done (act ∷ []) gone)) left)

module _ (D : List ℕ → Type 0) where
  pub chain_then : (A AW B BW C CW : List ℕ → Type 0) (one two : List Act) → Chain D A AW one B BW → Chain D B BW two C CW → Chain D A AW (one ++ two) C CW
  chain_then A AW B BW C CW one two first second = record {
    safe = λ start done steady. safe_then D start done one two (first.safe start done steady) (second.safe start (done ++ one) (first.ends start done steady));
    ends = λ start done steady. subst (λ (l : List Act). Steady C CW start l) (append_assoc done one two) (second.ends start (done ++ one) (first.ends start done steady));
  }

  pub chain_none : (A AW : List ℕ → Type 0) → ((x : List ℕ) → A x → D x) → Chain D A AW [] A AW
  chain_none A AW within = record {
    safe = λ start done steady image left. within image (steady.each image left);
    ends = λ start done steady. subst (λ (l : List Act). Steady A AW start l) (sym (append-nil done)) steady;
  }

  -- what is known of a read is known of the calls
  pub chain_with : (A AW B BW : List ℕ → Type 0) (calls : List Act) → ((x : List ℕ) → AW x → Chain D A AW calls B BW) → Chain D A AW calls B BW
  chain_with A AW B BW calls chain = record {
    safe = λ start done steady. (chain (contents_after start done) steady.whole).safe start done steady;
    ends = λ start done steady. (chain (contents_after start done) steady.whole).ends start done steady;
  }

  chain_one : (A AW B BW : List ℕ → Type 0) (act : Act) → ((x : List ℕ) → A x → D x) → ((x : List ℕ) → B x → D x)
      → ((start : List ℕ) (done : List Act) → Steady A AW start done → Steady B BW start (done ++ act ∷ [])) → Chain D A AW (act ∷ []) B BW
  chain_one A AW B BW act before behind on = record {
    safe = λ start done steady. ((λ image left. before image (steady.each image left)), (λ image left. behind image ((on start done steady).each image left)));
    ends = on;
  }

  pub chain_write : (A AW B BW : List ℕ → Type 0) (at : ℕ) (bytes : List ℕ) → ((x : List ℕ) → A x → D x) → ((x : List ℕ) → B x → D x)
      → ((x y : List ℕ) → A x → Torn at (length bytes) x y → B y) → ((x : List ℕ) → AW x → BW (put at bytes x)) → Chain D A AW (Write at bytes ∷ []) B BW
  chain_write A AW B BW at bytes before behind torn written = chain_one A AW B BW (Write at bytes) before behind (λ start done steady. record {
    whole = subst BW (sym (contents_more start done (Write at bytes ∷ []))) (written (contents_after start done) steady.whole);
    each = λ image left. let d = left_more start (λ i. i ≡ start) done (Write at bytes ∷ []) image left in torn d.0 image (steady.each d.0 d.1) d.2;
  })

  pub chain_sync : (A AW B BW : List ℕ → Type 0) → ((x : List ℕ) → A x → D x) → ((x : List ℕ) → B x → D x)
      → ((x : List ℕ) → AW x → B x) → ((x : List ℕ) → AW x → BW x) → Chain D A AW (Sync ∷ []) B BW
  chain_sync A AW B BW before behind each whole = chain_one A AW B BW Sync before behind (λ start done steady. record {
    whole = subst BW (sym (contents_more start done (Sync ∷ []))) (whole (contents_after start done) steady.whole);
    each = λ image left. subst B (sym (left_more start (λ i. i ≡ start) done (Sync ∷ []) image left)) (each (contents_after start done) steady.whole);
  })

  pub chain_look : (A AW : List ℕ → Type 0) → ((x : List ℕ) → A x → D x) → Chain D A AW (Look ∷ []) A AW
  chain_look A AW before = chain_one A AW A AW Look before before (λ start done steady. record {
    whole = subst AW (sym (contents_more start done (Look ∷ []))) steady.whole;
    each = λ image left. steady.each image (left_more start (λ i. i ≡ start) done (Look ∷ []) image left);
  })
