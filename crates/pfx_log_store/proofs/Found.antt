-- What is read of an image behind a log's last number: of a file whose frames may all stand there.
use Rattle.std.proofs.Common.{◌≡◌, ℕ, ◌≤◌, List, [], ◌∷◌, ◌++◌, length, take, drop, sym, ◌∙◌, ap, subst, arith, length-take}
use Rattle.std.proofs.lemmas.List.{take-append-drop, take-append-le, drop-append-le}
use Rattle.std.proofs.lemmas.Option.{same_Some}
use Rattle.pfx_events_acts.specs.Files.{IsFile}
use Rattle.pfx_store_format.specs.Format.{format}
use Rattle.pfx_store_format.proofs.Keeping.{format_laws}
use Rattle.pfx_store_header.specs.Headers.{Header}
use Rattle.pfx_jobs.specs.Kind.{Kind, Laws}
use Rattle.pfx_log.specs.Logs.{Log, last_number}
use Rattle.pfx_machine.specs.Plain.{Plain}
use Rattle.pfx_store_image.specs.Codec.{Codec}
use Rattle.pfx_store_image.specs.Recovery.{found_of}
use Rattle.pfx_store_image.specs.Store.{IsStore, Numbers, Parts}
use Rattle.pfx_store_image.proofs.Answers.{ok_same}
use Rattle.pfx_store_image.proofs.Recovers.{finds, recovers}
use Rattle.pfx_store_image.proofs.Runs.{numbers_of, numbers_rise}
use Rattle.pfx_store.specs.Files.{FileOf}
use Rattle.pfx_store_file.specs.Holding.{Survives}
use Rattle.pfx_log_store.specs.Behind.{StandBehind, all_frames}
use Rattle.pfx_log_store.specs.Covering.{HasBehind, HasKept}
use Rattle.pfx_log_store.proofs.Expected.{may, prefix_same, splits, these_may}
use Rattle.pfx_log_store.proofs.Fitted.{AllMay, IsFitted, all_numbers}

numbers_split : {H S : Type 0} (K : Codec H S) (n : ℕ) (xs : List (List ℕ)) (m : ℕ) (ys : List (List ℕ)) (e : ℕ) → Numbers K n xs m → Numbers K n (xs ++ ys) e → Numbers K m ys e
numbers_split K n [] m ys e is all = subst (λ k. Numbers K k ys e) is all
numbers_split K n (x ∷ xs) m ys e is all = numbers_split K is.0 xs m ys e is.2 (subst (λ k. Numbers K k (xs ++ ys) e) (same_Some all.0 is.0 (sym all.1 ∙ is.1)) all.2)

module _ {J : Type 0} (K : Kind J) (laws : Laws K) where
  module _ (last : ℕ) (rest : List (List ℕ)) (image : List ℕ) (fit : IsFitted (format K) (format_laws K laws) (may (format K) (format_laws K laws) last rest) last image) where
    -- the file that was found has those frames that are expected, up to its state
    pub stand_up : (h : Header) (p : Parts (Plain J)) (s : Plain J) → IsStore (format K) h p s image → (ys zs : List (List ℕ)) → rest ≡ ys ++ zs → Numbers (format K) last ys s.number
        → StandBehind (format K) p.base.number (all_frames p) last ys
    stand_up h p s store ys zs whole numbers =
        let C = format K in
        let same : found_of fit.h fit.p fit.s ≡ found_of h p s = ok_same _ _ (sym fit.found ∙ finds C (format_laws K laws) h image p s store) in
        let fits : AllMay C.after (may C (format_laws K laws) last rest) p.base.number (all_frames p) = subst (λ q. AllMay C.after (may C (format_laws K laws) last rest) q.base.number (all_frames q)) (ap (λ f. f.parts) same) fit.fit in
        let low : p.base.number ≤ last = subst (λ q. q.base.number ≤ last) (ap (λ f. f.parts) same) fit.low in
        let all = all_numbers C (format_laws K laws) (may C (format_laws K laws) last rest) h p s image store in
        let split = splits C (format_laws K laws) last rest p.base.number s.number (all_frames p) low (numbers_rise C (format_laws K laws) last ys s.number numbers) all fits in
        let there : Numbers C last split.ys s.number = numbers_split C p.base.number split.front last split.ys s.number split.reaches (subst (λ l. Numbers C p.base.number l s.number) split.whole all) in
        let equal : ys ≡ split.ys = prefix_same C (format_laws K laws) last s.number ys zs split.ys split.zs (sym whole ∙ split.prefix) numbers there in
        record { front = split.front; whole = split.whole ∙ ap (λ l. split.front ++ l) (sym equal); reaches = split.reaches }

  -- those of a file may stand there
  pub may_stand : (last : ℕ) (rest ys zs : List (List ℕ)) (p : Parts (Plain J)) (e : ℕ) → StandBehind (format K) p.base.number (all_frames p) last ys → Numbers (format K) last ys e → rest ≡ ys ++ zs
      → AllMay (format K).after (may (format K) (format_laws K laws) last rest) p.base.number (all_frames p)
  may_stand last rest ys zs p e stand numbers whole =
      subst (λ l. AllMay (format K).after (may (format K) (format_laws K laws) last rest) p.base.number l) (sym stand.whole)
      (these_may (format K) (format_laws K laws) last rest p.base.number e stand.front ys zs stand.reaches numbers whole)

  pub fitted_file : (last : ℕ) (rest ys zs : List (List ℕ)) (f : FileOf J) (s : Plain J) (image : List ℕ) → StandBehind (format K) f.parts.base.number (all_frames f.parts) last ys → Numbers (format K) last ys s.number → rest ≡ ys ++ zs
      → IsFile (format K) s f image → IsFitted (format K) (format_laws K laws) (may (format K) (format_laws K laws) last rest) last image
  fitted_file last rest ys zs f s image stand numbers whole is = record {
    h = f.head;
    p = f.parts;
    s = s;
    found = finds (format K) (format_laws K laws) f.head image f.parts s is.store;
    store = is.store;
    low = numbers_rise (format K) (format_laws K laws) f.parts.base.number stand.front last stand.reaches;
    fit = may_stand last rest ys zs f.parts s.number stand numbers whole;
  }

  module _ (start : Plain J) (all : List (List ℕ)) (n kept : ℕ) (behind : Plain J) (log : Log) (has : HasKept K start all kept behind log) (few : kept ≤ n) (image : List ℕ) (survives : Survives (format K) start all n image) where
    abbrev some : List (List ℕ)
    some = take survives.count all

    long : kept ≤ length some
    long = let low = survives.at_least in let high = survives.at_most in omega (arith, few, low, length-take survives.count all, high)

    front_same : take kept (take survives.count all) ≡ take kept all
    front_same = sym (take-append-le kept some (drop survives.count all) long) ∙ ap (take kept) (take-append-drop survives.count all)

    rest_same : drop kept all ≡ drop kept (take survives.count all) ++ drop survives.count all
    rest_same = ap (drop kept) (sym (take-append-drop survives.count all)) ∙ drop-append-le kept some (drop survives.count all) long

    numbers : Numbers (format K) (last_number log) (drop kept (take survives.count all)) survives.state.number
    numbers = subst (λ m. Numbers (format K) m (drop kept some) survives.state.number) has.number
        (numbers_split (format K) start.number (take kept some) behind.number (drop kept some) survives.state.number
        (subst (λ l. Numbers (format K) start.number l behind.number) (sym front_same) (numbers_of (format K) (format_laws K laws) start (take kept all) behind has.leads))
        (subst (λ l. Numbers (format K) start.number l survives.state.number) (sym (take-append-drop kept some)) (numbers_of (format K) (format_laws K laws) start some survives.state survives.replays)))

    -- so many frames of the list survive, and behind the log's last number those of them are read that the log hasn't
    pub has_behind : IsFitted (format K) (format_laws K laws) (may (format K) (format_laws K laws) (last_number log) (drop kept all)) (last_number log) image → HasBehind K (last_number log) (drop kept (take survives.count all)) image
    has_behind fit =
        let same : fit.s ≡ survives.state = ok_same _ _ (sym (recovers (format K) (format_laws K laws) fit.h image fit.p fit.s fit.store) ∙ survives.recovered) in
        record {
          file = found_of fit.h fit.p fit.s;
          found = fit.found;
          stand = stand_up (last_number log) (drop kept all) image fit fit.h fit.p fit.s fit.store (drop kept (take survives.count all)) (drop survives.count all) rest_same
              (subst (λ u. Numbers (format K) (last_number log) (drop kept (take survives.count all)) u.number) (sym same) numbers);
        }
