-- The segments of a file, as they are read.
use Rattle.std.proofs.Common.{◌≡◌, ℕ, ◌+◌, List, [], ◌++◌, refl, sym, ◌∙◌, ap, subst, Bool, true, false, not, Result, Ok, Err, ◌<◌, ◌^◌}
use Rattle.std.specs.Prelude.{MatchResult, if◌then◌else◌}
use Rattle.std.proofs.lemmas.Bool.{false≢true, true≢false}
use Rattle.byteorder.specs.Endian.{little_number}
use Rattle.pfx_store_format.specs.Format.{format, layout}
use Rattle.pfx_store_format.proofs.Keeping.{format_bounds, format_laws}
use Rattle.pfx_store_header.specs.Headers.{Header}
use Rattle.pfx_jobs.specs.Kind as jobs
use Rattle.pfx_jobs.specs.Kind.{Kind}
use Rattle.pfx_machine.specs.Plain.{Plain}
use Rattle.pfx_store_image.specs.Codec.{Codec, Laws}
use Rattle.pfx_store_image.specs.Layout.{first_at, segment_at}
use Rattle.pfx_store_image.specs.Recovery.{found, found_of}
use Rattle.pfx_store_image.specs.Store.{IsStore, Numbers, Other, Parts}
use Rattle.pfx_store_image.proofs.Runs.{numbers_of}
use Rattle.pfx_store_image.proofs.Stands.{found_stands}
use Rattle.pfx_segment.specs.Frames.{AreFrames}
use Rattle.pfx_store_file.specs.Checkpoints.{in_progress}
use Rattle.pfx_store_file.specs.Holding.{ArePlaces}
use Rattle.pfx_store_file.specs.declared.places.Places.{Places}
use Rattle.pfx_log_store.specs.Behind.{all_frames}
use Rattle.pfx_log_store.specs.Joining.{Gathering, Gathers, none_behind}
use Rattle.pfx_log_store.proofs.Behind.{ends_at, gathers, gathers_joined}

module _ {H S : Type 0} (K : Codec H S) (laws : Laws K) (h : H) (p : Parts S) (s : S) (x : List ℕ) where
  -- The segment that is read first, and its frames: these are all, or those of the other one come behind them.
  pub record IsFirst (second : Bool) : Type 0 where
    pub frames : List (List ℕ)
    pub middle : ℕ
    pub number : K.segment_number (first_at (segment_at (K.layout h) second) x) ≡ K.number p.base + 1
    pub are : AreFrames (segment_at (K.layout h) second + 9) (segment_at (K.layout h) second + (K.layout h).segment) frames x
    pub numbers : Numbers K (K.number p.base) frames middle
    pub alone : p.turned ≡ false → all_frames p ≡ frames
    pub other : p.turned ≡ true → (all_frames p ≡ frames ++ p.frames) × Numbers K middle p.frames (K.number s)

  module _ (is : IsStore K h p s x) where
    first_by : (turned : Bool) → p.turned ≡ turned → Other K h turned p s x → IsFirst (if turned then not p.segment else p.segment)
    first_by false same other = record {
      frames = p.frames;
      middle = K.number s;
      number = is.current.number ∙ ap (λ m. K.number m + 1) (sym other.1);
      are = is.current.are;
      numbers = subst (λ m. Numbers K (K.number m) p.frames (K.number s)) (sym other.1) (numbers_of K laws p.middle p.frames s is.state);
      alone = λ single. ap (λ l. l ++ p.frames) other.2;
      other = λ turned. absurd (false≢true (sym same ∙ turned));
    }
    first_by true same other = record {
      frames = p.before;
      middle = K.number p.middle;
      number = other.0.number;
      are = other.0.are;
      numbers = numbers_of K laws p.base p.before p.middle other.1;
      alone = λ single. absurd (true≢false (sym same ∙ single));
      other = λ turned. (refl, numbers_of K laws p.middle p.frames s is.state);
    }

    pub first_is : (second : Bool) → second ≡ (if p.turned then not p.segment else p.segment) → IsFirst second
    first_is second same = subst IsFirst (sym same) (first_by p.turned refl is.other)

-- what is answered for one is so for what follows from it
pub match_map : {T E : Type 0} (P Q : T → Type 0) (R : E → Type 0) (result : Result T E) → ((t : T) → P t → Q t) → MatchResult result P R → MatchResult result Q R
match_map P Q R (Ok t) f is = f t is
match_map P Q R (Err e) f is = is

none_is : (items : List ℕ) (n base : ℕ) → items ≡ [] → n ≡ base → none_behind base ≡ record { bytes = items; begin = n; number = n }
none_is items n base empty same =
    ap (λ l. record { bytes = l; begin = base; number = base }) (sym empty) ∙ ap (λ m. record { bytes = items; begin = m; number = m }) (sym same)

-- the file that was found, by places of which the one is that of the segment that is read first
module _ {J : Type 0} (K : Kind J) (laws : jobs.Laws K) (h : Header) (p : Parts (Plain J)) (s : Plain J) (x : List ℕ) (is_found : found (format K) x ≡ Ok (found_of h p s)) (places : Places) (are : ArePlaces (format K) h p places)
    (second : Bool) (second_is : second ≡ (if in_progress places.checkpoint then not places.segment else places.segment)) (at : ℕ) (at_is : at ≡ segment_at (layout h) second) where
  store : IsStore (format K) h p s x
  store = found_stands (format K) (format_laws K laws) (found_of h p s) x is_found

  pub first : IsFirst (format K) (format_laws K laws) h p s x second
  first = first_is (format K) (format_laws K laws) h p s x store second
      (second_is ∙ ap (λ b. if b then not places.segment else places.segment) are.turned ∙ ap (λ b. if p.turned then not b else b) are.segment)

  pub small : p.base.number < 2 ^ 48
  small = (format_bounds K laws).number h _ p.base store.area.body

  pub number : little_number 8 (first_at at x) ≡ p.base.number + 1
  number = ap (λ a. little_number 8 (first_at a x)) at_is ∙ first.number

  there : (b : Bool) (place : ℕ) (frames : List (List ℕ)) (y : List ℕ) → place ≡ segment_at (layout h) b → y ≡ x → AreFrames (segment_at (layout h) b + 9) (segment_at (layout h) b + (layout h).segment) frames x
      → AreFrames (place + 9) (place + places.sizes.segment) frames y
  there b place frames y same bytes stand = subst (λ l. AreFrames (place + 9) (place + places.sizes.segment) frames l) (sym bytes)
      (subst (λ n. AreFrames (place + 9) (place + n) frames x) (sym are.fits.segment) (subst (λ a. AreFrames (a + 9) (a + (layout h).segment) frames x) (sym same) stand))

  pub are_first : (y : List ℕ) → y ≡ x → AreFrames (at + 9) (at + places.sizes.segment) first.frames y
  are_first y bytes = there second at first.frames y at_is bytes first.are

  module _ (last : ℕ) where
    abbrev reached : (next : Gathering) × Gathers (format K) last (none_behind p.base.number) first.frames next
    reached = gathers (format K) last (none_behind p.base.number) first.frames first.middle first.numbers

    abbrev pub next : Gathering
    next = reached.0

    pub gathers_first : (items : List ℕ) (n : ℕ) → items ≡ [] → n ≡ p.base.number → Gathers (format K) last (record { bytes = items; begin = n; number = n }) first.frames next
    gathers_first items n empty same = subst (λ g. Gathers (format K) last g first.frames next) (none_is items n p.base.number empty same) reached.1

    module _ (g : Gathering) (is : g ≡ next) where
      at_first : Gathers (format K) last (none_behind p.base.number) first.frames g
      at_first = subst (λ g. Gathers (format K) last (none_behind p.base.number) first.frames g) (sym is) reached.1

      -- one segment is read
      pub one_done : in_progress places.checkpoint ≡ false → Gathers (format K) last (none_behind p.base.number) (all_frames p) g
      one_done single = subst (λ l. Gathers (format K) last (none_behind p.base.number) l g) (sym (first.alone (sym are.turned ∙ single))) at_first

      -- two are
      module _ (double : in_progress places.checkpoint ≡ true) where
        both : (all_frames p ≡ first.frames ++ p.frames) × Numbers (format K) first.middle p.frames s.number
        both = first.other (sym are.turned ∙ double)

        further : (next : Gathering) × Gathers (format K) last g p.frames next
        further = gathers (format K) last g p.frames s.number (subst (λ n. Numbers (format K) n p.frames s.number) (sym (ends_at (format K) last (none_behind p.base.number) first.frames first.middle g first.numbers at_first)) both.1)

        pub next_two : Gathering
        next_two = further.0

        pub gathers_two : Gathers (format K) last g p.frames next_two
        unfolding next_two
        gathers_two = further.1

        pub are_two : (place : ℕ) (y : List ℕ) → place ≡ segment_at (layout h) places.segment → y ≡ x → AreFrames (place + 9) (place + places.sizes.segment) p.frames y
        are_two place y same bytes = there p.segment place p.frames y (same ∙ ap (segment_at (layout h)) are.segment) bytes store.current.are

        pub two_done : (end : Gathering) → end ≡ next_two → Gathers (format K) last (none_behind p.base.number) (all_frames p) end
        two_done end same = subst (λ l. Gathers (format K) last (none_behind p.base.number) l end) (sym both.0)
            (gathers_joined (format K) last (none_behind p.base.number) first.frames p.frames g end at_first (subst (λ e. Gathers (format K) last g p.frames e) (sym same) gathers_two))
