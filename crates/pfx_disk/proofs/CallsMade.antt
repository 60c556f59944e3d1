-- Calls of a disk, one after the other.
use Rattle.std.proofs.Common.{◌≡◌, inl, inr, ⊎_elim, ℕ, ◌≤◌, List, [], ◌∷◌, ◌++◌, length, refl, sym, ◌∙◌, ap, subst, arith, append_assoc, append-nil}
use Rattle.pfx_disk.specs.Disk.{View, Leaves, Same, Torn, Written, Only}
use Rattle.pfx_disk.specs.Stop.{Act, Sync, Write, Look, put, Left}
use Rattle.pfx_disk.proofs.Left.{put_inside, contents_more, left_back}
use Rattle.pfx_disk.specs.CallsMade.{with_failed, IsAfter, HasMade, HasBrokenOff, HasKeptTo}

module _ (old new : View) where
  left_written : (start : List ℕ) (done : List Act) (at : ℕ) (bytes d image : List ℕ) → Left start done d → Torn at (length bytes) d image → Left start (done ++ Write at bytes ∷ []) image
  left_written start done at bytes d image left torn = left_back start (λ i. i ≡ start) done (Write at bytes ∷ []) image (d, left, torn)

  module _ (at : ℕ) (bytes : List ℕ) (l : Leaves (Torn at (length bytes)) old new) where
    pub write_made : at ≤ length old.contents → Written at bytes old.contents new.contents → HasMade (Write at bytes ∷ []) old new
    write_made inside written start done f = record {
      contents = written ∙ (sym (put_inside at bytes old.contents inside) ∙ (ap (put at bytes) f.contents ∙ sym (contents_more start done (Write at bytes ∷ []))));
      images = λ image now. let d = l.now image now in left_written start done at bytes d.0 image (f.images d.0 d.1) d.2;
    }

    pub write_broken : HasBrokenOff (Write at bytes ∷ []) old new
    write_broken start done f = record {
      gone = [];
      act = Write at bytes;
      rest = [];
      are = refl;
      images = λ image now. let d = l.now image now in
          subst (λ (k : List Act). Left start (k ++ Write at bytes ∷ []) image) (sym (append-nil done)) (left_written start done at bytes d.0 image (f.images d.0 d.1) d.2);
    }

    pub write_within : HasKeptTo (Write at bytes ∷ []) old new
    write_within start done f c image le is = ⊎_elim (λ before. inl before)
        (λ d. inr (Write at bytes ∷ [], [], refl, left_written start done at bytes d.0 image (f.images d.0 d.1) d.2))
        (l.since c image le is)

  module _ (l : Leaves Same old new) where
    same_left : (start : List ℕ) (done : List Act) → IsAfter old start done → (image : List ℕ) → new.now image → Left start done image
    same_left start done f image now = let d = l.now image now in subst (λ i. Left start done i) (sym d.2) (f.images d.0 d.1)

    same_broken : (act : Act) → ((d : List Act) → with_failed d act ≡ d) → HasBrokenOff (act ∷ []) old new
    same_broken act none start done f = record {
      gone = [];
      act = act;
      rest = [];
      are = refl;
      images = λ image now. subst (λ (k : List Act). Left start k image) (sym (none (done ++ []) ∙ append-nil done)) (same_left start done f image now);
    }

    same_within : (act : Act) → HasKeptTo (act ∷ []) old new
    same_within act start done f c image le is = ⊎_elim (λ before. inl before)
        (λ d. inr ([], act ∷ [], refl, subst (λ (k : List Act). Left start k image) (sym (append-nil done)) (subst (λ i. Left start done i) (sym d.2) (f.images d.0 d.1))))
        (l.since c image le is)

    pub sync_made : Only old.contents new → HasMade (Sync ∷ []) old new
    sync_made only start done f = record {
      contents = l.contents ∙ (f.contents ∙ sym (contents_more start done (Sync ∷ [])));
      images = λ image now. left_back start (λ i. i ≡ start) done (Sync ∷ []) image (only image now ∙ f.contents);
    }

    pub sync_broken : HasBrokenOff (Sync ∷ []) old new
    sync_broken = same_broken Sync (λ d. refl)

    pub sync_within : HasKeptTo (Sync ∷ []) old new
    sync_within = same_within Sync

    pub look_made : HasMade (Look ∷ []) old new
    look_made start done f = record {
      contents = l.contents ∙ (f.contents ∙ sym (contents_more start done (Look ∷ [])));
      images = λ image now. left_back start (λ i. i ≡ start) done (Look ∷ []) image (same_left start done f image now);
    }

    pub look_broken : HasBrokenOff (Look ∷ []) old new
    look_broken = same_broken Look (λ d. refl)

    pub look_within : HasKeptTo (Look ∷ []) old new
    look_within = same_within Look

pub made_none : (a : View) → HasMade [] a a
made_none a start done f = subst (λ (l : List Act). IsAfter a start l) (sym (append-nil done)) f

module _ (one two : List Act) (a b : View) where
  pub broken_first : HasBrokenOff one a b → HasBrokenOff (one ++ two) a b
  broken_first m start done f = let x = m start done f in record {
    gone = x.gone;
    act = x.act;
    rest = x.rest ++ two;
    are = sym (append_assoc x.gone (x.act ∷ x.rest) two) ∙ ap (λ l. l ++ two) x.are;
    images = x.images;
  }

  pub within_first : HasKeptTo one a b → HasKeptTo (one ++ two) a b
  within_first p start done f c image le is = ⊎_elim (λ before. inl before) (λ x. inr (x.0, x.1 ++ two, sym (append_assoc x.0 x.1 two) ∙ ap (λ l. l ++ two) x.2, x.3)) (p start done f c image le is)

  module _ (c : View) (went : HasMade one a b) where
    pub made_then : HasMade two b c → HasMade (one ++ two) a c
    made_then second start done f = subst (λ (l : List Act). IsAfter c start l) (append_assoc done one two) (second start (done ++ one) (went start done f))

    pub broken_then : HasBrokenOff two b c → HasBrokenOff (one ++ two) a c
    broken_then m start done f = let x = m start (done ++ one) (went start done f) in record {
      gone = one ++ x.gone;
      act = x.act;
      rest = x.rest;
      are = append_assoc one x.gone (x.act ∷ x.rest) ∙ ap (λ l. one ++ l) x.are;
      images = λ image now. subst (λ (l : List Act). Left start (with_failed l x.act) image) (append_assoc done one x.gone) (x.images image now);
    }

    pub within_then : a.clock ≤ b.clock → HasKeptTo one a b → HasKeptTo two b c → HasKeptTo (one ++ two) a c
    within_then later first second start done f k image le is = ⊎_elim
        (λ before. ⊎_elim (λ still. inl still) (λ x. inr (x.0, x.1 ++ two, sym (append_assoc x.0 x.1 two) ∙ ap (λ l. l ++ two) x.2, x.3)) (first start done f k image le before))
        (λ x. inr (one ++ x.0, x.1, append_assoc one x.0 x.1 ∙ ap (λ l. one ++ l) x.2, subst (λ (l : List Act). Left start l image) (append_assoc done one x.0) x.3))
        (second start (done ++ one) (went start done f) k image (omega (arith, le, later)) is)
