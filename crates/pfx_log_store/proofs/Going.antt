-- A log and a file that go on together.
use Rattle.std.proofs.Common.{◌≡◌, ℕ, ◌+◌, ◌≤◌, ◌<◌, List, [], ◌∷◌, ◌++◌, length, get_or, take, drop, refl, sym, ◌∙◌, ap, subst, arith, length-append, length-take, Some, append-nil, true, Ok}
use Rattle.std.proofs.lemmas.List.{take-append-drop, take-take}
use Rattle.std.proofs.lemmas.Option.{same_Some}
use Rattle.pfx_store_format.specs.Format.{format}
use Rattle.pfx_store_format.specs.Frames.{number_after}
use Rattle.pfx_store_format.proofs.Keeping.{format_laws}
use Rattle.pfx_store_format.proofs.Nexts.{next_of}
use Rattle.pfx_jobs.specs.Kind.{Kind, Laws}
use Rattle.pfx_log.specs.Holding.{Holds}
use Rattle.pfx_log.specs.Logs.{Log, new_log, number_of}
use Rattle.pfx_log.proofs.Chains.{one_held}
use Rattle.pfx_machine.specs.Plain.{Plain}
use Rattle.pfx_store_image.specs.Codec as codecs
use Rattle.pfx_store_image.specs.Codec.{Codec}
use Rattle.pfx_store_image.specs.Recovery.{found_of, recovered}
use Rattle.pfx_store_image.specs.Store.{Numbers, Replays}
use Rattle.pfx_store_image.proofs.Answers.{ok_same}
use Rattle.pfx_store_image.proofs.Recovers.{finds, recovers}
use Rattle.pfx_store_image.proofs.Runs.{numbers_rise}
use Rattle.pfx_store_image.proofs.Stands.{found_stands, stands}
use Rattle.pfx_segment.specs.Frames.{size}
use Rattle.pfx_log_store.specs.Behind.{StandBehind, all_frames}
use Rattle.pfx_log_store.specs.Covering.{AreCovered, in_a_row}
use Rattle.pfx_log_store.specs.Opening.{GoOn}
use Rattle.pfx_log_store.proofs.Expected.{prefix_same}
use Rattle.pfx_log_store.proofs.Fitted.{all_numbers}

replays_split : {H S : Type 0} (K : Codec H S) (s : S) (xs : List (List ℕ)) (t : S) (ys : List (List ℕ)) (u : S) → Replays K s xs t → Replays K s (xs ++ ys) u → Replays K t ys u
replays_split K s [] t ys u is all = subst (λ v. Replays K v ys u) is all
replays_split K s (x ∷ xs) t ys u is all = replays_split K is.0 xs t ys u is.2 (subst (λ v. Replays K v (xs ++ ys) u) (same_Some all.0 is.0 (sym all.1 ∙ is.1)) all.2)

-- what a stop left goes on
pub stopped : {J : Type 0} (K : Kind J) (laws : Laws K) (start : Plain J) (all : List (List ℕ)) (n : ℕ) (logged filed : List ℕ) → AreCovered K start all n logged filed → (held : Log) → Holds logged held
    → (count : ℕ) × (n ≤ count) × (count ≤ length all) × GoOn K start (take count all) held filed
stopped K laws start all n logged filed is held holds =
    let C = format K in
    let same_log : is.log ≡ held = one_held logged is.log held is.holds holds in
    let count = is.survives.count in
    let low : is.kept ≤ is.survives.count = (let a = is.no_later in let b = is.survives.at_least in omega (arith, a, b)) in
    let most = is.survives.at_most in
    let front : take is.kept (take is.survives.count all) ≡ take is.kept all = take-take is.kept is.survives.count all low in
    let leads = subst (λ l. Replays (format K) start l is.behind) (sym front) is.keeps.leads in
    let f = is.reads.file in
    let same_state : f.state ≡ is.survives.state = ok_same _ _ (sym (recovers C (format_laws K laws) f.head filed f.parts f.state (found_stands C (format_laws K laws) f filed is.reads.found)) ∙ is.survives.recovered) in (
      count,
      is.survives.at_least,
      is.survives.at_most,
      subst (λ l. GoOn K start (take is.survives.count all) l filed) same_log (record {
        kept = is.kept;
        behind = is.behind;
        keeps = record {
          few = omega (arith, low, most, length-take is.survives.count all);
          frames = is.keeps.frames ∙ ap in_a_row (sym front);
          leads = leads;
          number = is.keeps.number;
        };
        reads = is.reads;
        leads = subst (λ u. Replays (format K) is.behind (drop is.kept (take is.survives.count all)) u) (sym same_state)
            (replays_split C start (take is.kept (take is.survives.count all)) is.behind (drop is.kept (take is.survives.count all)) is.survives.state leads
            (subst (λ l. Replays (format K) start l is.survives.state) (sym (take-append-drop is.kept (take is.survives.count all))) is.survives.replays));
      }),
    )

-- the frames behind a number are these and no others
module _ {H S : Type 0} (K : Codec H S) (laws : codecs.Laws K) where
  pub stand_same : (n : ℕ) (frames : List (List ℕ)) (last : ℕ) (one other : List (List ℕ)) → StandBehind K n frames last one → StandBehind K n frames last other → one ≡ other
  stand_same n frames last one other a b =
      let front = prefix_same K laws n last a.front one b.front other (sym a.whole ∙ b.whole) a.reaches b.reaches in
      let whole : a.front ++ one ≡ a.front ++ other = sym a.whole ∙ b.whole ∙ ap (λ l. l ++ other) (sym front) in
      cancel a.front one other whole
    where
      cancel : (front one other : List (List ℕ)) → front ++ one ≡ front ++ other → one ≡ other
      cancel [] one other same = same
      cancel (x ∷ front) one other same = cancel front one other (ap (λ l. drop 1 l) same)

  -- if the number lies before some frames and others, all of these come behind it, and some of those
  module _ (filled : (n : ℕ) (frame : List ℕ) (k : ℕ) → K.after n frame ≡ Some k → 0 < length frame) where
    pub size_more : (xs ys : List (List ℕ)) → size (xs ++ ys) ≡ size xs + size ys
    size_more [] ys = omega arith
    size_more (x ∷ xs) ys = omega (arith, size_more xs ys)

    pub more_behind : (n m last : ℕ) (before front frames rest : List (List ℕ)) → Numbers K n before m → Numbers K n front last → before ++ frames ≡ front ++ rest → last < m → size frames < size rest
    more_behind n m last [] [] frames rest numbers reaches whole less = absurd (omega (arith, numbers, reaches, less))
    more_behind n m last (x ∷ before) [] frames rest numbers reaches whole less =
        let long = filled n x numbers.0 numbers.1 in
        let same : size (x ∷ (before ++ frames)) ≡ size rest = ap size whole in
        omega (arith, long, same, size_more before frames)
    more_behind n m last [] (f ∷ front) frames rest numbers reaches whole less = absurd (let low = numbers_rise K laws n (f ∷ front) last reaches in omega (arith, numbers, less, low))
    more_behind n m last (x ∷ before) (f ∷ front) frames rest numbers reaches whole less =
        let first : x ≡ f = ap (λ l. get_or l 0 []) whole in
        let others : before ++ frames ≡ front ++ rest = ap (λ l. drop 1 l) whole in
        let k : reaches.0 ≡ numbers.0 = same_Some reaches.0 numbers.0 (sym reaches.1 ∙ ap (λ g. K.after n g) (sym first) ∙ numbers.1) in
        more_behind numbers.0 m last before front frames rest numbers.2 (subst (λ q. Numbers K q front last) k reaches.2) others less

pub row_size : (frames : List (List ℕ)) → length (in_a_row frames) ≡ size frames
row_size [] = refl
row_size (frame ∷ frames) = omega (arith, length-append frame (in_a_row frames), row_size frames)

pub frame_filled : (n : ℕ) (frame : List ℕ) (k : ℕ) → number_after n frame ≡ Some k → 0 < length frame
frame_filled n frame k is = let next = next_of n frame k is in let whole = next.whole in omega (arith, whole)

-- a new log goes on with a file at its number
pub new_goes_on : {J : Type 0} (K : Kind J) (laws : Laws K) (s : Plain J) (filed : List ℕ) → recovered (format K) filed ≡ Ok s → (version : ℕ) (state before : List ℕ) → number_of state ≡ s.number → GoOn K s [] (new_log version state before) filed
new_goes_on K laws s filed is version state before same =
    let C = format K in
    let (h, p, store) = stands C (format_laws K laws) s filed is in
    record {
      kept = 0;
      behind = s;
      keeps = record { few = omega arith; frames = refl; leads = refl; number = sym same };
      reads = record {
        file = found_of h p s;
        found = finds C (format_laws K laws) h filed p s store;
        stand = record {
          front = all_frames p;
          whole = sym (append-nil (all_frames p));
          reaches = subst (λ m. Numbers (format K) p.base.number (all_frames p) m) (sym same) (all_numbers C (format_laws K laws) (λ n frame. true) h p s filed store);
        };
      };
      leads = refl;
    }
