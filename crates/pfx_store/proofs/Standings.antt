-- Stores that stand, after the calls of their files.
use Rattle.std.specs.Prelude.{◌≡◌, ◌≤◌, ◌+◌, ℕ, List, [], ◌∷◌, ◌++◌, length, if◌then◌else◌, Bool, true, false, Option, Some, None, Result, Ok, Err, OnOk, IsErrAnd, Vec, refl}
use Rattle.std.specs.declared.alloc.Global.{Global}
use Rattle.std.proofs.Common.{sym, ◌∙◌, ap, arith, length-append, subst}
use Rattle.std.proofs.lemmas.Bool.{true≢false}
use Rattle.std.proofs.lemmas.List.{take-append-le}
use Rattle.pfx_checkpoint.specs.Whole.{whole_bytes}
use Rattle.pfx_disk.specs.Disk.{View}
use Rattle.pfx_store_format.specs.Areas.{read_area}
use Rattle.pfx_store_format.specs.Format.{format, layout, IsOf}
use Rattle.pfx_store_header.specs.Headers.{Header, least_segment}
use Rattle.pfx_jobs.specs.Kind.{Kind, Laws}
use Rattle.pfx_machine.specs.Plain.{Plain, IsState}
use Rattle.pfx_store_recover.specs.Finding.{IsMiddle, IsOpened}
use Rattle.pfx_store_image.specs.Recovery.{Found, found, found_of, on_ok, recovered}
use Rattle.pfx_store_image.specs.Store.{Parts, Replays, finished, turned_at, with_frame}
use Rattle.pfx_store_file.specs.Checkpoints.{in_progress}
use Rattle.pfx_store_file.specs.Holding.{Holds, KeepsAll}
use Rattle.pfx_store_file.specs.Tending.{FindsRoom, settled, settled_unless, made_room}
use Rattle.pfx_store_file.specs.declared.places.Places.{Places}
use Rattle.pfx_store_file.specs.declared.progress.Checkpoint.{Checkpoint}
use Rattle.pfx_store_file.specs.declared.progress.Checkpoint.TheVariants.{Pending, Writing}
use Rattle.pfx_store_file.proofs.Keeping.{room_there, room_made}
use Rattle.pfx_store.specs.Standing.{Stands}
use Rattle.pfx_store.specs.Working.{IsOfStore, SpellsTurn}
use Rattle.pfx_store.proofs.Areas.{spelled_read}

-- how the body of a checkpoint is spelled matters only if one is in progress
respelled : {J : Type 0} (K : Kind J) (h : Header) (places : Places) (p : Parts (Plain J)) (s : Plain J) (a b : List ℕ) (disk : View) → Holds (format K) h places p s a disk → p.turned ≡ false → Holds (format K) h places p s b disk
respelled K h places p s a b disk holds single = record {
  honest = holds.honest;
  fits = holds.fits;
  area = holds.area;
  segment = holds.segment;
  turned = holds.turned;
  gate = holds.gate;
  end = holds.end;
  images = holds.images;
  begun = λ done is. absurd (true≢false (sym (holds.begun done is).turned ∙ single));
}

settled_by : {S : Type 0} (p : Parts S) (b : Bool) → p.turned ≡ b → (settled p).turned ≡ false
settled_by p true is = ap (λ b. (if b then finished p else p).turned) is
settled_by p false is = ap (λ b. (if b then finished p else p).turned) is ∙ is

pub settled_single : {S : Type 0} (p : Parts S) → (settled p).turned ≡ false
settled_single p = settled_by p p.turned refl

-- if no checkpoint is in progress any more
pub stands_settled : {J : Type 0} (K : Kind J) (h : Header) (places : Places) (p : Parts (Plain J)) (s : Plain J) (a b : List ℕ) (disk : View) → Holds (format K) h places (settled p) s a disk → IsOf h s → Stands K places s b disk
stands_settled K h places p s a b disk holds same = record {
  header = h;
  parts = settled p;
  holds = respelled K h places (settled p) s a b disk holds (settled_single p);
  of = same;
  middle = λ is. absurd (true≢false (sym is ∙ settled_single p));
}

-- if a step of the checkpoint has been taken
settled_middle : {S : Type 0} (turned : Bool) (p : Parts S) (P : S → Type 0) → (p.turned ≡ true → P p.middle) → (settled_unless turned p).turned ≡ true → P (settled_unless turned p).middle
settled_middle true p P middle is = middle is
settled_middle false p P middle is = absurd (true≢false (sym is ∙ settled_single p))

pub stands_tended : {J : Type 0} (K : Kind J) (h : Header) (places : Places) (p : Parts (Plain J)) (s : Plain J) (a b : List ℕ) (disk : View) → a ≡ b → IsOf h s → (p.turned ≡ true → read_area K h a ≡ Some p.middle) →
    Holds (format K) h places (settled_unless (in_progress places.checkpoint) p) s a disk → Stands K places s b disk
stands_tended K h places p s a b disk same set middle holds = subst (λ (l : List ℕ). Stands K places s l disk) same (record {
  header = h;
  parts = settled_unless (in_progress places.checkpoint) p;
  holds = holds;
  of = set;
  middle = settled_middle (in_progress places.checkpoint) p (λ m. read_area K h a ≡ Some m) middle;
})

-- if the store was turned, with the state spelled
pub stands_turned : {J : Type 0} (K : Kind J) (L : Laws K) (h : Header) (places : Places) (p : Parts (Plain J)) (s : Plain J) (spelled : List ℕ) (disk : View) → IsState s → IsOf h s → spelled ≡ whole_bytes K s →
    Holds (format K) h places (turned_at p s) s spelled disk → Stands K places s spelled disk
stands_turned K L h places p s spelled disk state set is holds = record {
  header = h;
  parts = turned_at p s;
  holds = holds;
  of = set;
  middle = λ _. spelled_read K L h s spelled state set is;
}

-- a state of the same store is of the same header
goes_on_of : {J : Type 0} (h : Header) (s t : Plain J) → IsOfStore s t → IsOf h s → IsOf h t
goes_on_of h s t same of = record {
  real = same.real ∙ of.real;
  segment = same.segment ∙ of.segment;
  room = subst (λ n. least_segment t.ledger.set.workers ≤ n) (same.segment ∙ of.segment) same.fits;
}

-- nor where one is in progress of which nothing has been written
begun_not : {C : Type 0} (c : Checkpoint) (done : ℕ) → c ≡ Pending → c ≡ Writing done → C
begun_not c done pending writing = cc

respelled_pending : {J : Type 0} (K : Kind J) (h : Header) (places : Places) (p : Parts (Plain J)) (s : Plain J) (a b : List ℕ) (disk : View) → Holds (format K) h places p s a disk → places.checkpoint ≡ Pending → Holds (format K) h places p s b disk
respelled_pending K h places p s a b disk holds pending = record {
  honest = holds.honest;
  fits = holds.fits;
  area = holds.area;
  segment = holds.segment;
  turned = holds.turned;
  gate = holds.gate;
  end = holds.end;
  images = holds.images;
  begun = λ done is. begun_not places.checkpoint done pending is;
}

-- A frame more, which leads to the state t, and the state at the turn spelled where the file was turned for it.
module _ {J : Type 0} (K : Kind J) (L : Laws K) (n : ℕ) (old new : Places) (s t : Plain J) (spelled other frame : List ℕ) (before behind : View) where
  pub stands_appended : (turned : Bool) → (st : Stands K old s spelled before) → IsState s → IsOfStore s t → FindsRoom turned n old new → SpellsTurn K turned s spelled other →
      Holds (format K) st.header new (with_frame (made_room n old st.parts s) frame) t spelled behind → Stands K new t other behind
  stands_appended false st state of finds spells holds = subst (λ (l : List ℕ). Stands K new t l behind) (sym (spells.same refl)) (record {
    header = st.header;
    parts = with_frame (made_room n old st.parts s) frame;
    holds = holds;
    of = goes_on_of st.header s t of st.of;
    middle = subst (λ (q : Parts (Plain J)). q.turned ≡ true → read_area K st.header spelled ≡ Some q.middle) (sym (room_there n old st.parts s (finds.there refl))) st.middle;
  })
  stands_appended true st state of finds spells holds = record {
    header = st.header;
    parts = with_frame (made_room n old st.parts s) frame;
    holds = respelled_pending K st.header new (with_frame (made_room n old st.parts s) frame) t spelled other behind holds (finds.takes.full (finds.full refl)).pending;
    of = goes_on_of st.header s t of st.of;
    middle = subst (λ (q : Parts (Plain J)). q.turned ≡ true → read_area K st.header other ≡ Some q.middle) (sym (room_made n old st.parts s (finds.full refl))) (λ turned. spelled_read K L st.header s other state st.of (spells.spelled refl));
  }

-- what survives survives with a frame more to come
pub keeps_more : {J : Type 0} (K : Kind J) (start : Plain J) (all : List (List ℕ)) (frame : List ℕ) (a b : View) → KeepsAll (format K) start all all a b → KeepsAll (format K) start all (all ++ frame ∷ []) a b
keeps_more K start all frame a b keeps c n le before image is =
    let s = keeps c n le before image is in
    record {
      count = s.count;
      at_least = s.at_least;
      at_most = (let most = s.at_most in omega (arith, most, length-append all (frame ∷ [])));
      state = s.state;
      replays = subst (λ (l : List (List ℕ)). Replays (format K) start l s.state) (sym (take-append-le s.count all (frame ∷ []) s.at_most)) s.replays;
      recovered = s.recovered;
    }

-- if nothing is done
pub keeps_still : {J : Type 0} (K : Kind J) (start : Plain J) (all : List (List ℕ)) (a : View) → KeepsAll (format K) start all all a a
keeps_still K start all a c n le before image is = before image is

-- a store that was opened
pub middle_spelled : {J : Type 0} (K : Kind J) (h : Header) (p : Parts (Plain J)) (middle : Option (Vec ℕ Global)) (spelled : List ℕ) → IsMiddle (format K) h p middle →
    ((v : Vec ℕ Global) → middle ≡ Some v → length v.items ≡ (layout h).body → spelled ≡ v.items) → p.turned ≡ true → read_area K h spelled ≡ Some p.middle
middle_spelled K h p None spelled between kept turned = absurd (true≢false (sym turned ∙ between))
middle_spelled K h p (Some v) spelled between kept turned = ap (read_area K h) (kept v refl between.1) ∙ between.2

pub opened_stands : {J : Type 0} (K : Kind J) (h : Header) (bytes : List ℕ) (places : Places) (s : Plain J) (middle : Option (Vec ℕ Global)) (spelled : List ℕ) (disk : View) →
    IsOpened (format K) h bytes places s middle disk → IsOf h s → ((v : Vec ℕ Global) → middle ≡ Some v → length v.items ≡ (layout h).body → spelled ≡ v.items) → Stands K places s spelled disk
opened_stands K h bytes places s middle spelled disk opened set kept = record {
  header = h;
  parts = opened.parts;
  holds = opened.holds spelled;
  of = set;
  middle = middle_spelled K h opened.parts middle spelled opened.between kept;
}

pub found_recovered : {J : Type 0} (K : Kind J) (h : Header) (bytes : List ℕ) (p : Parts (Plain J)) (s : Plain J) → found (format K) bytes ≡ Ok (found_of h p s) → recovered (format K) bytes ≡ Ok s
unfolding recovered
found_recovered K h bytes p s is = ap (λ r. on_ok r (λ f. Ok f.state)) is

abbrev result : {A E : Type 0} → A → Result A E
result a = Ok a

same_turned : {H S E : Type 0} (a b : Found H S) → result {E = E} a ≡ Ok b → a.parts.turned ≡ b.parts.turned
same_turned a b is = cc

-- two segments were read where the parts say so
pub opened_turned : {J : Type 0} (K : Kind J) (h : Header) (bytes : List ℕ) (places : Places) (s : Plain J) (middle : Option (Vec ℕ Global)) (disk : View) → IsOpened (format K) h bytes places s middle disk → (f : Found Header (Plain J)) → found (format K) bytes ≡ Ok f → in_progress places.checkpoint ≡ f.parts.turned
opened_turned K h bytes places s middle disk opened f is = (opened.holds []).turned ∙ same_turned (found_of h opened.parts s) f (sym opened.found ∙ is)

pub on_ok_then : {T E P Q : Type 0} (r : Result T E) → (P → Q) → OnOk r P → OnOk r Q
on_ok_then (Ok x) f p = f p
on_ok_then (Err e) f p = tt

-- after a fault nothing is to be shown of a success
pub none_on_fault : {T E : Type 0} (P : Type 0) (Q : E → Type 0) (r : Result T E) → IsErrAnd r Q → OnOk r P
none_on_fault P Q (Ok x) is = absurd is
none_on_fault P Q (Err e) is = tt
