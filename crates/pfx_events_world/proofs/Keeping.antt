-- Each event keeps what holds.
use Rattle.std.specs.Prelude.{◌≡◌, ◌≢◌, ◌⊎◌, ℕ, ◌+◌, ◌-◌, ◌≤◌, ◌<◌, ◌==◌, Bool, true, false, cond, List, [], ◌∷◌, ◌++◌, length, take, Option, Some, None, refl, slice_get, slice_set, map}
use Rattle.std.proofs.lemmas.Option.{same_Some}
use Rattle.std.proofs.Common.{zero, suc, sym, ◌∙◌, ap, subst, arith, append_assoc, length-append, inl, inr, ⊎_elim, eq-eqb}
use Rattle.std.proofs.lemmas.List.{take-append-le, length-take-le, take_all}
use Rattle.std.proofs.lemmas.Bool.{cases_lt, cases_eq, ne_eqb}
use Rattle.pfx_jobs.specs.Kind.{Kind}
use Rattle.pfx_machine.specs.Plain.{Plain, whole, IsState}
use Rattle.pfx_machine.specs.Outcome.{outcome}
use Rattle.pfx_machine.specs.Refusals.{refusal}
use Rattle.pfx_machine.specs.declared.command.Command.{Command}
use Rattle.pfx_machine.specs.declared.command.Command.TheVariants.{Slot}
use Rattle.pfx_machine.specs.Happenings.{row_or_none}
use Rattle.pfx_machine.specs.Slots.{Deal, deals_in, written_back}
use Rattle.pfx_weights.specs.Rows.{is_in}
use Rattle.pfx_columns.specs.Ledgers.{after as ledger_behind}
use Rattle.pfx_machine.specs.Choosing.{row_in}
use Rattle.pfx_machine.proofs.Rowing.{row_chosen}
use Rattle.pfx_machine.specs.Batches.{IsBatchable}
use Rattle.pfx_machine.specs.Refusals.{command_fault}
use Rattle.pfx_machine.specs.Steps.{state_step, happening_in, jobs_step}
use Rattle.pfx_machine.proofs.Dealt.{written-dealt}
use Rattle.pfx_machine.proofs.Keeping.{state_goes_on, below_limit, slot_row, chosen_rises}
use Rattle.pfx_machine.proofs.Serving.{Apart, apart_of, served-slot}
use Rattle.pfx_machine.proofs.Snoc.{outcome-snoc}
use Rattle.pfx_machine.proofs.SessionLemmas.{acceptable-snoc}
use Rattle.pfx_disk.specs.Stop.{Act, Sync, Write, Look, Left}
use Rattle.pfx_disk.specs.CallsMade.{with_failed}
use Rattle.pfx_events_world.specs.Calls.{MayLeave}
use Rattle.pfx_events_world.specs.Setting.{Setting, StandsFor, Settled, Leads, IsSound}
use Rattle.pfx_events_world.specs.World.{World, state_at}
use Rattle.pfx_events_world.specs.Session.{Opened, AllBack, opening_of, given_in, given_back, back_in, gave, MayGive, sealed_in, marked_now, receipted, cut}
use Rattle.pfx_events_world.specs.Events.{run_once, made_by, give_one, Begins, Event, IsIdle, state_of, next_of, taking, called, missed, device, stopped, MayHappen, happens, run, CanRun, Ask, Begin, Step, Give, Seal, Abandon, Take, Tend, Device, Publish, Mark, Fail, Receipt, Look, Stop}
use Rattle.pfx_events_world.specs.Claims.{IsLater}
use Rattle.pfx_events_world.proofs.Machine.{number_at, take-take, begins_all, begins_take, begins_takes, begins_on, take_accepted, next_accepted, next_outcome, next_long}
use Rattle.pfx_events_world.proofs.Paths.{acts-nil, leads_nowhere, leads_synced, settled_at}
use Rattle.pfx_events_world.proofs.Holding.{Works, DiskIs, RightBack, IsOpen, Holds}

module _ {J : Type 0} (S : Setting J) (sound : IsSound S) (B : Plain J) where
  -- one more command
  fair_more : (H : List (Command J)) (c : Command J) → ((k : ℕ) → k ≤ length H → IsState (state_at S B H k)) → refusal S.kind (outcome S.kind B H) c ≡ None →
      (k : ℕ) → k ≤ length (H ++ c ∷ []) → IsState (state_at S B (H ++ c ∷ []) k)
  fair_more H c fair ok k below = elim (cases_lt k (length H + 1)) [
    | inl low ↦ subst (λ l. IsState (outcome S.kind B l)) (sym (take-append-le k H (c ∷ []) (omega (arith, low)))) (fair k (omega (arith, low)))
    | inr out ↦
        let last = subst (λ l. IsState (outcome S.kind B l)) (take_all (length H) H (omega arith)) (fair (length H) (omega arith)) in
        let next = state_goes_on S.kind (outcome S.kind B H) c last ok in
        let here = subst (λ s. IsState s) (sym (outcome-snoc S.kind sound.jobs B H c)) next in
        subst (λ l. IsState (outcome S.kind B l)) (sym (take_all k (H ++ c ∷ []) (omega (arith, length-append H (c ∷ []), out)))) here
  ]

  more : (w : World S) (c : Command J) (s : Plain J) (o : Option (Opened J)) → Holds S B w → refusal S.kind (state_of S B w) c ≡ None → ((x : Opened J) → o ≡ Some x → ⊥) →
      s ≡ state_step S.kind (state_of S B w) (happening_in (state_of S B w) c) → Holds S B (record w { book = record w.book { accepted = w.book.accepted ++ c ∷ []; state = s; opened = o } })
  more w c s o h ok none is_next =
      let kept : take w.kept (w.book.accepted ++ c ∷ []) ≡ take w.kept w.book.accepted = take-append-le w.kept w.book.accepted (c ∷ []) (omega (arith, h.kept_in, h.taken_in)) in
      let taken : take w.book.taken (w.book.accepted ++ c ∷ []) ≡ take w.book.taken w.book.accepted = take-append-le w.book.taken w.book.accepted (c ∷ []) h.taken_in in
      record {
        acceptable = acceptable-snoc S.kind B w.book.accepted c h.acceptable ok;
        fair = fair_more w.book.accepted c h.fair ok;
        state_is = is_next ∙ sym (outcome-snoc S.kind sound.jobs B w.book.accepted c);
        slot_ok = λ x is. absurd (none x is);
        made_right = h.made_right;
        taken_in = omega (arith, h.taken_in, length-append w.book.accepted (c ∷ []));
        kept_in = h.kept_in;
        marked_in = h.marked_in;
        published_in = subst (λ l. Begins w.published l) (sym kept) h.published_in;
        readers_in = λ r. subst (λ l. Begins (w.readers r) l) (sym kept) (h.readers_in r);
        receipts_in = h.receipts_in;
        disk =
            let one = subst (λ l. DiskIs S w.broken w.start w.done w.coming w.place (outcome S.kind B l) (state_at S B w.book.accepted w.book.taken)) (sym kept) h.disk in
            subst (λ l. DiskIs S w.broken w.start w.done w.coming w.place (state_at S B (w.book.accepted ++ c ∷ []) w.kept) (outcome S.kind B l)) (sym taken) one;
        rest = h.rest;
      }

  -- only the was slot changes
  slot_on : (w : World S) (o : Option (Opened J)) → Holds S B w → ((x : Opened J) → o ≡ Some x → IsOpen S w.book.state x) → Holds S B (record w { book = record w.book { opened = o } })
  slot_on w o h free = record {
    acceptable = h.acceptable;
    fair = h.fair;
    state_is = h.state_is;
    slot_ok = free;
    made_right = h.made_right;
    taken_in = h.taken_in;
    kept_in = h.kept_in;
    marked_in = h.marked_in;
    published_in = h.published_in;
    readers_in = h.readers_in;
    receipts_in = h.receipts_in;
    disk = h.disk;
    rest = h.rest;
  }

  -- an unbroken disk
  works_of : (w : World S) → Holds S B w → w.broken ≡ false → Works S w.start w.done w.coming w.place (state_at S B w.book.accepted w.kept) (state_at S B w.book.accepted w.book.taken)
  works_of w h whole = subst (λ b. DiskIs S b w.start w.done w.coming w.place (state_at S B w.book.accepted w.kept) (state_at S B w.book.accepted w.book.taken)) whole h.disk

  -- with no call to come
  settled_now : (start : List ℕ) (done coming : List Act) (place : S.Parts) (before end : Plain J) → Works S start done coming place before end → coming ≡ [] → Settled S start done end place
  settled_now start done coming place before end works none =
      let all = works.leads.ends start works.base works.settled in
      let is : works.base ++ (works.gone ++ coming) ≡ done = ap (λ l. works.base ++ (works.gone ++ l)) none ∙ (ap (λ l. works.base ++ l) (acts-nil works.gone) ∙ works.done_is) in
      subst (λ l. Settled S start l end place) is all

  idle_settled : (w : World S) → Holds S B w → IsIdle S w → Settled S w.start w.done (state_at S B w.book.accepted w.book.taken) w.place
  idle_settled w h idle = settled_now w.start w.done w.coming w.place _ _ (works_of w h idle.whole) idle.none

  idle_kept : (w : World S) → Holds S B w → IsIdle S w → w.kept ≡ w.book.taken
  idle_kept w h idle = h.rest idle.whole idle.none

  take_on : (w : World S) (n : ℕ) → Holds S B w → IsIdle S w → 0 < n → n ≤ 16 → w.book.taken + n ≤ length w.book.accepted → IsBatchable (next_of S w n) → Holds S B (taking S B w n)
  take_on w n h idle some few room batchable =
      let s = state_at S B w.book.accepted w.book.taken in
      let batch = next_of S w n in
      let long : length batch ≡ n = next_long w.book.accepted w.book.taken n room in
      let leads = sound.appends w.place s batch (omega (arith, long, some)) (omega (arith, long, few)) batchable (h.fair w.book.taken h.taken_in) (next_accepted S.kind sound.jobs B w.book.accepted w.book.taken n h.acceptable) in
      let leads2 = subst (λ t. Leads S s w.place (S.calls w.place s batch) t (S.moved w.place s batch)) (next_outcome S.kind sound.jobs B w.book.accepted w.book.taken n) leads in
      let works : Works S w.start w.done (S.calls w.place s batch) (S.moved w.place s batch) s (state_at S B w.book.accepted (w.book.taken + n)) =
      record { base = w.done; gone = []; from = w.place; settled = idle_settled w h idle; leads = leads2; done_is = acts-nil w.done } in
      let works2 = subst (λ k. Works S w.start w.done (S.calls w.place s batch) (S.moved w.place s batch) (state_at S B w.book.accepted k) (state_at S B w.book.accepted (w.book.taken + n))) (sym (idle_kept w h idle)) works in
      record {
        acceptable = h.acceptable;
        fair = h.fair;
        state_is = h.state_is;
        slot_ok = h.slot_ok;
        made_right = h.made_right;
        taken_in = room;
        kept_in = omega (arith, h.kept_in);
        marked_in = h.marked_in;
        published_in = h.published_in;
        readers_in = h.readers_in;
        receipts_in = h.receipts_in;
        disk = subst (λ b. DiskIs S b w.start w.done (S.calls w.place s batch) (S.moved w.place s batch) (state_at S B w.book.accepted w.kept) (state_at S B w.book.accepted (w.book.taken + n))) (sym idle.whole) works2;
        rest = λ whole none. absurd (omega (arith, sound.some_calls w.place s batch, ap (λ l. length l) none));
      }

  tend_on : (w : World S) → Holds S B w → IsIdle S w → S.tends w.place ≢ [] → Holds S B (record w { coming = S.tends w.place; place = S.tended w.place })
  tend_on w h idle some =
      let s = state_at S B w.book.accepted w.book.taken in
      let works : Works S w.start w.done (S.tends w.place) (S.tended w.place) s s =
      record { base = w.done; gone = []; from = w.place; settled = idle_settled w h idle; leads = sound.tending w.place s; done_is = acts-nil w.done } in
      let works2 = subst (λ k. Works S w.start w.done (S.tends w.place) (S.tended w.place) (state_at S B w.book.accepted k) s) (sym (idle_kept w h idle)) works in
      record {
        acceptable = h.acceptable;
        fair = h.fair;
        state_is = h.state_is;
        slot_ok = h.slot_ok;
        made_right = h.made_right;
        taken_in = h.taken_in;
        kept_in = h.kept_in;
        marked_in = h.marked_in;
        published_in = h.published_in;
        readers_in = h.readers_in;
        receipts_in = h.receipts_in;
        disk = subst (λ b. DiskIs S b w.start w.done (S.tends w.place) (S.tended w.place) (state_at S B w.book.accepted w.kept) s) (sym idle.whole) works2;
        rest = λ whole none. absurd (some none);
      }

  -- calls still to come: the disk isn't broken
  whole_of : (w : World S) (b : Bool) → DiskIs S b w.start w.done w.coming w.place (state_at S B w.book.accepted w.kept) (state_at S B w.book.accepted w.book.taken) → w.broken ≡ b → w.coming ≢ [] → w.broken ≡ false
  whole_of w true disk is some = absurd (some disk.none)
  whole_of w false disk is some = is

  marks_more : (b : Bool) (marked taken : ℕ) → marked ≤ taken → (cond b taken marked ≤ taken) × (marked ≤ cond b taken marked)
  marks_more true marked taken h = (omega arith, h)
  marks_more false marked taken h = (h, omega arith)

  device_last : (w : World S) (act : Act) → w.coming ≡ act ∷ [] → Holds S B w → Holds S B (called S w (act ∷ []))
  device_last w act is h =
      let some : w.coming ≢ [] = λ none. cc in
      let whole = whole_of w w.broken h.disk refl some in
      let works = works_of w h whole in
      let all = works.leads.ends w.start works.base works.settled in
      let place_is : works.base ++ (works.gone ++ w.coming) ≡ w.done ++ act ∷ [] =
      ap (λ l. works.base ++ (works.gone ++ l)) is ∙ (sym (append_assoc works.base works.gone (act ∷ [])) ∙ ap (λ l. l ++ act ∷ []) works.done_is) in
      let s = state_at S B w.book.accepted w.book.taken in
      let now : Settled S w.start (w.done ++ act ∷ []) s w.place = subst (λ l. Settled S w.start l s w.place) place_is all in
      let next : Works S w.start (w.done ++ act ∷ []) [] w.place s s =
      record { base = w.done ++ act ∷ []; gone = []; from = w.place; settled = now; leads = leads_nowhere S sound s w.place; done_is = acts-nil (w.done ++ act ∷ []) } in
      let front = begins_takes w.kept w.book.taken w.book.accepted h.kept_in in
      let low : w.book.marked ≤ w.book.taken = omega (arith, h.marked_in, h.kept_in) in
      record {
        acceptable = h.acceptable;
        fair = h.fair;
        state_is = h.state_is;
        slot_ok = h.slot_ok;
        made_right = h.made_right;
        taken_in = h.taken_in;
        kept_in = omega arith;
        marked_in = (marks_more w.opening w.book.marked w.book.taken low).0;
        published_in = begins_on w.published (take w.kept w.book.accepted) (take w.book.taken w.book.accepted) h.published_in front;
        readers_in = λ r. begins_on (w.readers r) (take w.kept w.book.accepted) (take w.book.taken w.book.accepted) (h.readers_in r) front;
        receipts_in = λ n r. omega (arith, h.receipts_in n r, (marks_more w.opening w.book.marked w.book.taken low).1);
        disk = subst (λ b. DiskIs S b w.start (w.done ++ act ∷ []) [] w.place s s) (sym whole) next;
        rest = λ _ none. refl;
      }

  device_next : (w : World S) (act next : Act) (coming : List Act) → w.coming ≡ act ∷ next ∷ coming → Holds S B w → Holds S B (called S w (act ∷ next ∷ coming))
  device_next w act next coming is h =
      let some : w.coming ≢ [] = λ none. cc in
      let whole = whole_of w w.broken h.disk refl some in
      let works = works_of w h whole in
      let calls_are : works.gone ++ w.coming ≡ (works.gone ++ act ∷ []) ++ next ∷ coming = ap (λ l. works.gone ++ l) is ∙ sym (append_assoc works.gone (act ∷ []) (next ∷ coming)) in
      let s = state_at S B w.book.accepted w.kept in
      let t = state_at S B w.book.accepted w.book.taken in
      let on : Works S w.start (w.done ++ act ∷ []) (next ∷ coming) w.place s t = record {
        base = works.base;
        gone = works.gone ++ act ∷ [];
        from = works.from;
        settled = works.settled;
        leads = subst (λ l. Leads S s works.from l t w.place) calls_are works.leads;
        done_is = sym (append_assoc works.base works.gone (act ∷ [])) ∙ ap (λ l. l ++ act ∷ []) works.done_is;
      } in
      record {
        acceptable = h.acceptable;
        fair = h.fair;
        state_is = h.state_is;
        slot_ok = h.slot_ok;
        made_right = h.made_right;
        taken_in = h.taken_in;
        kept_in = h.kept_in;
        marked_in = h.marked_in;
        published_in = h.published_in;
        readers_in = h.readers_in;
        receipts_in = h.receipts_in;
        disk = subst (λ b. DiskIs S b w.start (w.done ++ act ∷ []) (next ∷ coming) w.place s t) (sym whole) on;
        rest = λ _ none. absurd cc;
      }

  device_called : (w : World S) (coming : List Act) → w.coming ≡ coming → Holds S B w → Holds S B (called S w coming)
  device_called w [] is h = h
  device_called w (act ∷ []) is h = device_last w act is h
  device_called w (act ∷ next ∷ coming) is h = device_next w act next coming is h

  -- what may be left before the coming call, and within it
  left_works : (start : List ℕ) (done coming : List Act) (place : S.Parts) (before end : Plain J) → Works S start done coming place before end →
      (image : List ℕ) → Left start done image → StandsFor S image before ⊎ StandsFor S image end
  left_works start done coming place before end works image left =
      works.leads.during start works.base works.gone coming works.settled refl image (subst (λ l. Left start l image) (sym works.done_is) left)

  within_works : (start : List ℕ) (done : List Act) (act : Act) (coming : List Act) (place : S.Parts) (before end : Plain J) → Works S start done (act ∷ coming) place before end →
      (image : List ℕ) → Left start (done ++ act ∷ []) image → StandsFor S image before ⊎ StandsFor S image end
  within_works start done act coming place before end works image left =
      works.leads.during start works.base (works.gone ++ act ∷ []) coming works.settled (append_assoc works.gone (act ∷ []) coming) image
      (subst (λ l. Left start l image) (ap (λ l. l ++ act ∷ []) (sym works.done_is) ∙ append_assoc works.base works.gone (act ∷ [])) left)

  failed_works : (start : List ℕ) (done : List Act) (act : Act) (coming : List Act) (place : S.Parts) (before end : Plain J) → Works S start done (act ∷ coming) place before end →
      (image : List ℕ) → Left start (with_failed done act) image → StandsFor S image before ⊎ StandsFor S image end
  failed_works start done Sync coming place before end works image left = left_works start done (Sync ∷ coming) place before end works image left
  failed_works start done Look coming place before end works image left = left_works start done (Look ∷ coming) place before end works image left
  failed_works start done (Write at bytes) coming place before end works image left = within_works start done (Write at bytes) coming place before end works image left

  -- broken, with nothing to come
  give_up : (w : World S) (done : List Act) (clock : ℕ) (halted : Bool) → Holds S B w →
      ((image : List ℕ) → Left w.start done image → StandsFor S image (state_at S B w.book.accepted w.kept) ⊎ StandsFor S image (state_at S B w.book.accepted w.book.taken)) →
      Holds S B (record w { book = record w.book { halted = halted }; coming = []; done = done; clock = clock; broken = true })
  give_up w done clock halted h each = record {
    acceptable = h.acceptable;
    fair = h.fair;
    state_is = h.state_is;
    slot_ok = h.slot_ok;
    made_right = h.made_right;
    taken_in = h.taken_in;
    kept_in = h.kept_in;
    marked_in = h.marked_in;
    published_in = h.published_in;
    readers_in = h.readers_in;
    receipts_in = h.receipts_in;
    disk = record { none = refl; each = each };
    rest = λ whole none. absurd cc;
  }

  device_missed : (w : World S) (coming : List Act) → w.coming ≡ coming → Holds S B w → Holds S B (missed S w coming)
  device_missed w [] is h = h
  device_missed w (act ∷ coming) is h =
      let some : w.coming ≢ [] = λ none. cc in
      let works = works_of w h (whole_of w w.broken h.disk refl some) in
      let works2 = subst (λ l. Works S w.start w.done l w.place (state_at S B w.book.accepted w.kept) (state_at S B w.book.accepted w.book.taken)) is works in
      give_up w (with_failed w.done act) (w.clock + 1) w.book.halted h (failed_works w.start w.done act coming w.place _ _ works2)

  device_any : (w : World S) (ok : Bool) → Holds S B w → Holds S B (device S w ok)
  device_any w true h = device_called w w.coming refl h
  device_any w false h = device_missed w w.coming refl h

  left_any : (b : Bool) (start : List ℕ) (done coming : List Act) (place : S.Parts) (before end : Plain J) → DiskIs S b start done coming place before end →
      (image : List ℕ) → Left start done image → StandsFor S image before ⊎ StandsFor S image end
  left_any true start done coming place before end disk image left = disk.each image left
  left_any false start done coming place before end disk image left = left_works start done coming place before end disk image left

  may_any : (b : Bool) (start : List ℕ) (done coming : List Act) (place : S.Parts) (before end : Plain J) → DiskIs S b start done coming place before end →
      (image : List ℕ) → MayLeave start done coming image → StandsFor S image before ⊎ StandsFor S image end
  may_any b start done coming place before end disk image (inl left) = left_any b start done coming place before end disk image left
  may_any true start done [] place before end disk image (inr left) = absurd left
  may_any false start done [] place before end disk image (inr left) = absurd left
  may_any true start done (act ∷ coming) place before end disk image (inr left) = let no = disk.none in absurd cc
  may_any false start done (act ∷ coming) place before end disk image (inr left) = within_works start done act coming place before end disk image left

  -- what recovery finds in an image that may be left
  pub found_in : (w : World S) → Holds S B w → (image : List ℕ) → MayLeave w.start w.done w.coming image →
      (k : ℕ) × (p : S.Parts) × (k ≤ length w.book.accepted) × (w.book.marked ≤ k) × (S.recovered image ≡ Some (state_at S B w.book.accepted k, p)) × ((k ≡ w.kept) ⊎ (k ≡ w.book.taken))
  found_in w h image may = ⊎_elim
      (λ before. let r = sound.reads image _ before.0 before.1 in (w.kept, r.0, omega (arith, h.kept_in, h.taken_in), h.marked_in, r.1, inl refl))
      (λ end. let r = sound.reads image _ end.0 end.1 in (w.book.taken, r.0, h.taken_in, omega (arith, h.kept_in, h.marked_in), r.1, inr refl))
      (may_any w.broken w.start w.done w.coming w.place _ _ h.disk image may)

  publish_on : (w : World S) → Holds S B w → IsIdle S w → Holds S B (record w { published = take w.book.taken w.book.accepted })
  publish_on w h idle = record {
    acceptable = h.acceptable;
    fair = h.fair;
    state_is = h.state_is;
    slot_ok = h.slot_ok;
    made_right = h.made_right;
    taken_in = h.taken_in;
    kept_in = h.kept_in;
    marked_in = h.marked_in;
    published_in = subst (λ k. Begins (take w.book.taken w.book.accepted) (take k w.book.accepted)) (sym (idle_kept w h idle)) (begins_all (take w.book.taken w.book.accepted));
    readers_in = h.readers_in;
    receipts_in = h.receipts_in;
    disk = h.disk;
    rest = h.rest;
  }

  mark_on : (w : World S) → Holds S B w → IsIdle S w → Holds S B (record w { book = marked_now w.clock w.book })
  mark_on w h idle = record {
    acceptable = h.acceptable;
    fair = h.fair;
    state_is = h.state_is;
    slot_ok = h.slot_ok;
    made_right = h.made_right;
    taken_in = h.taken_in;
    kept_in = h.kept_in;
    marked_in = omega (arith, idle_kept w h idle);
    published_in = h.published_in;
    readers_in = h.readers_in;
    receipts_in = λ n r. omega (arith, h.receipts_in n r, h.marked_in, h.kept_in);
    disk = h.disk;
    rest = h.rest;
  }

  receipt_on : (w : World S) (n : ℕ) → Holds S B w → n ≤ B.number + w.book.marked → Holds S B (record w { book = receipted n w.book })
  receipt_on w n h low = record {
    acceptable = h.acceptable;
    fair = h.fair;
    state_is = h.state_is;
    slot_ok = h.slot_ok;
    made_right = h.made_right;
    taken_in = h.taken_in;
    kept_in = h.kept_in;
    marked_in = h.marked_in;
    published_in = h.published_in;
    readers_in = h.readers_in;
    receipts_in = λ m r. ⊎_elim (λ same. omega (arith, same, low)) (λ old. h.receipts_in m old) r;
    disk = h.disk;
    rest = h.rest;
  }

  looked : (b : Bool) (xs ys zs : List (Command J)) → Begins xs zs → Begins ys zs → Begins (cond b xs ys) zs
  looked true xs ys zs a b = a
  looked false xs ys zs a b = b

  look_on : (w : World S) (reader n : ℕ) → Holds S B w → Holds S B (record w { readers = λ r. cond (r == reader) (take n w.published) (w.readers r) })
  look_on w reader n h = record {
    acceptable = h.acceptable;
    fair = h.fair;
    state_is = h.state_is;
    slot_ok = h.slot_ok;
    made_right = h.made_right;
    taken_in = h.taken_in;
    kept_in = h.kept_in;
    marked_in = h.marked_in;
    published_in = h.published_in;
    readers_in = λ r. looked (r == reader) (take n w.published) (w.readers r) (take w.kept w.book.accepted)
        (begins_on (take n w.published) w.published (take w.kept w.book.accepted) (begins_take n w.published) h.published_in) (h.readers_in r);
    receipts_in = h.receipts_in;
    disk = h.disk;
    rest = h.rest;
  }

  -- a stop that leaves j commands
  abbrev pub left_at : World S → List ℕ → Plain J → S.Parts → ℕ → World S
  left_at w image s place j = record {
    book = cut j s w.book;
    made = [];
    kept = j;
    coming = Sync ∷ [];
    opening = true;
    place = place;
    start = image;
    done = [];
    clock = w.clock;
    broken = false;
    published = take j w.book.accepted;
    readers = λ reader. take j w.book.accepted;
  }

  stop_at : (w : World S) (image : List ℕ) (p : S.Parts) (j : ℕ) → Holds S B w → j ≤ length w.book.accepted → w.book.marked ≤ j → S.whole image (state_at S B w.book.accepted j) p → Holds S B (left_at w image (state_at S B w.book.accepted j) p j)
  stop_at w image p j h below marked stands =
      let long = length-take-le j w.book.accepted below in
      let same : take j (take j w.book.accepted) ≡ take j w.book.accepted = take-take j j w.book.accepted (omega arith) in
      let s = state_at S B w.book.accepted j in
      let works : Works S image [] (Sync ∷ []) p s s = record { base = []; gone = []; from = p; settled = settled_at S sound image s p stands; leads = leads_synced S sound s p; done_is = refl } in
      let shown : Begins (take j w.book.accepted) (take j (take j w.book.accepted)) = subst (λ l. Begins (take j w.book.accepted) l) (sym same) (begins_all (take j w.book.accepted)) in
      record {
        acceptable = take_accepted S.kind B w.book.accepted j h.acceptable;
        fair = λ k low. subst (λ l. IsState (outcome S.kind B l)) (sym (take-take k j w.book.accepted (omega (arith, long, low)))) (h.fair k (omega (arith, long, low, below)));
        state_is = refl;
        slot_ok = λ o is. absurd cc;
        made_right = λ k m is. absurd cc;
        taken_in = omega (arith, long);
        kept_in = omega arith;
        marked_in = marked;
        published_in = shown;
        readers_in = λ r. shown;
        receipts_in = h.receipts_in;
        disk = subst (λ l. Works S image [] (Sync ∷ []) p (outcome S.kind B l) (outcome S.kind B l)) (sym same) works;
        rest = λ _ none. absurd cc;
      }

  -- how many commands a recovered state has
  pub count_is : (w : World S) (k : ℕ) → k ≤ length w.book.accepted → (state_at S B w.book.accepted k).number - B.number ≡ k
  count_is w k below = omega (arith, number_at S.kind sound.jobs B w.book.accepted k below)

  stop_on : (w : World S) (image : List ℕ) → Holds S B w → MayLeave w.start w.done w.coming image → Holds S B (stopped S B w image (S.recovered image))
  stop_on w image h may =
      let f = found_in w h image may in
      let stands = sound.found image _ f.1 f.4 in
      let left = stop_at w image f.1 f.0 h f.2 f.3 stands in
      let left2 = subst (λ j. Holds S B (left_at w image (state_at S B w.book.accepted f.0) f.1 j)) (sym (count_is w f.0 f.2)) left in
      subst (λ o. Holds S B (stopped S B w image o)) (sym f.4) left2

  -- an was slot
  begun_back : (K : Kind J) (quanta : List (Deal J)) → RightBack K quanta (map (λ d. None) quanta)
  begun_back K [] = tt
  begun_back K (d ∷ quanta) = begun_back K quanta

  begun : (s : Plain J) → refusal S.kind s Slot ≡ None → IsOpen S s (opening_of S.kind s)
  begun s free = record { free = free; row_is = refl; quanta_are = refl; back_right = begun_back S.kind (opening_of S.kind s).quanta }

  made_more : (K : Kind J) (d : Deal J) (made : List (Deal J × J)) → ((k : ℕ) (m : Deal J × J) → slice_get made k ≡ Some m → m.1 ≡ K.stepped m.0.before) →
      (k : ℕ) (m : Deal J × J) → slice_get ((d, K.stepped d.before) ∷ made) k ≡ Some m → m.1 ≡ K.stepped m.0.before
  made_more K d made right zero m is =
      let same = same_Some _ _ is in
      ap (λ (x : Deal J × J). x.1) (sym same) ∙ ap (λ (x : Deal J × J). K.stepped x.0.before) same
  made_more K d made right (suc k) m is = right k m is

  ran_once : (K : Kind J) (o : Option (Deal J)) (made : List (Deal J × J)) → ((k : ℕ) (m : Deal J × J) → slice_get made k ≡ Some m → m.1 ≡ K.stepped m.0.before) →
      (k : ℕ) (m : Deal J × J) → slice_get (run_once K o made) k ≡ Some m → m.1 ≡ K.stepped m.0.before
  ran_once K None made right k m is = right k m is
  ran_once K (Some d) made right k m is = made_more K d made right k m is

  ran_on : (K : Kind J) (n : ℕ) (o : Option (Opened J)) (made : List (Deal J × J)) → ((k : ℕ) (m : Deal J × J) → slice_get made k ≡ Some m → m.1 ≡ K.stepped m.0.before) →
      (k : ℕ) (m : Deal J × J) → slice_get (made_by K n o made) k ≡ Some m → m.1 ≡ K.stepped m.0.before
  ran_on K n None made right k m is = right k m is
  ran_on K n (Some o) made right k m is = ran_once K (slice_get o.quanta n) made right k m is

  step_on : (w : World S) (n : ℕ) → Holds S B w → Holds S B (record w { made = made_by S.kind n w.book.opened w.made })
  step_on w n h = record {
    acceptable = h.acceptable;
    fair = h.fair;
    state_is = h.state_is;
    slot_ok = h.slot_ok;
    made_right = ran_on S.kind n w.book.opened w.made h.made_right;
    taken_in = h.taken_in;
    kept_in = h.kept_in;
    marked_in = h.marked_in;
    published_in = h.published_in;
    readers_in = h.readers_in;
    receipts_in = h.receipts_in;
    disk = h.disk;
    rest = h.rest;
  }

  back_set : (K : Kind J) (quanta : List (Deal J)) (back : List (Option J)) (k : ℕ) (d : Deal J) (r : J) → slice_get quanta k ≡ Some d → r ≡ K.stepped d.before →
      RightBack K quanta back → RightBack K quanta (slice_set back k (Some r))
  back_set K [] [] k d r at is right = tt
  back_set K (q ∷ quanta) (None ∷ back) zero d r at is right = (is ∙ ap (λ (x : Deal J). K.stepped x.before) (sym (same_Some _ _ at)), right)
  back_set K (q ∷ quanta) (None ∷ back) (suc k) d r at is right = back_set K quanta back k d r at is right
  back_set K (q ∷ quanta) (Some b ∷ back) zero d r at is right = (is ∙ ap (λ (x : Deal J). K.stepped x.before) (sym (same_Some _ _ at)), right.1)
  back_set K (q ∷ quanta) (Some b ∷ back) (suc k) d r at is right = (right.0, back_set K quanta back k d r at is right.1)
  back_set K [] (b ∷ back) k d r at is right = absurd right
  back_set K (q ∷ quanta) [] k d r at is right = absurd right

  given_on : (s : Plain J) (place : ℕ) (d : Deal J) (r : J) (o : Opened J) → slice_get o.quanta place ≡ Some d → r ≡ S.kind.stepped d.before → IsOpen S s o → IsOpen S s (given_in place r o)
  given_on s place d r o at is was = record {
    free = was.free;
    row_is = was.row_is;
    quanta_are = was.quanta_are;
    back_right = back_set S.kind o.quanta o.back place d r at is was.back_right;
  }

  give_on : (w : World S) (place : ℕ) (m : Deal J × J) → Holds S B w → m.1 ≡ S.kind.stepped m.0.before → MayGive w.book place m.0 → Holds S B (record w { book = gave place m.1 w.book })
  give_on w place m h is may = slot_on w (back_in place m.1 w.book.opened) h (λ x here.
      let now : Some (given_in place m.1 may.0) ≡ Some x = ap (back_in place m.1) (sym may.1) ∙ here in
      subst (λ y. IsOpen S w.book.state y) (same_Some _ _ now) (given_on w.book.state place m.0 m.1 may.0 may.2 is (h.slot_ok may.0 may.1)))

  -- with all results back, the jobs are those of the machine's step
  all_given : (K : Kind J) (quanta : List (Deal J)) (back jobs : List (Option J)) → RightBack K quanta back → AllBack back → given_back quanta back jobs ≡ written_back K quanta jobs
  all_given K [] [] jobs right all = refl
  all_given K (d ∷ quanta) (None ∷ back) jobs right all = absurd all
  all_given K (d ∷ quanta) (Some r ∷ back) jobs right all =
      all_given K quanta back (slice_set jobs d.task (Some r)) right.1 all ∙ ap (λ x. written_back K quanta (slice_set jobs d.task (Some x))) right.0
  all_given K [] (b ∷ back) jobs right all = absurd right
  all_given K (d ∷ quanta) [] jobs right all = absurd right

  row_apart : (s : Plain J) → IsState s → refusal S.kind s Slot ≡ None → Apart (row_or_none (row_in s))
  row_apart s state free =
      let chosen_is = slot_row (row_in s) (below_limit s.number (command_fault S.kind s Slot) free).1 in
      apart_of _ (chosen_rises s.ledger (row_or_none (row_in s)) state.ledger (row_chosen s (row_or_none (row_in s)) chosen_is))

  sealed : (s : Plain J) (o : Opened J) → IsState s → IsOpen S s o → AllBack o.back → sealed_in s (Some o) ≡ state_step S.kind s (happening_in s Slot)
  sealed s o state was all =
      let row = row_or_none (row_in s) in
      let quanta : o.quanta ≡ deals_in S.kind s row = was.quanta_are ∙ ap (deals_in S.kind s) was.row_is in
      let jobs : given_back o.quanta o.back s.jobs ≡ jobs_step S.kind 0 (happening_in s Slot) s.jobs =
      all_given S.kind o.quanta o.back s.jobs was.back_right all
      ∙ (ap (λ q. written_back S.kind q s.jobs) quanta ∙ (written-dealt S.kind (s.number + 1) (whole s) row s.jobs (row_apart s state was.free) ∙ served-slot S.kind 0 (whole s) row s.jobs)) in
      ap (λ j. same_but s o.row j) jobs ∙ ap (λ r. same_but s r (jobs_step S.kind 0 (happening_in s Slot) s.jobs)) was.row_is
    where
      same_but : Plain J → List ℕ → List (Option J) → Plain J
      same_but t row jobs = record { number = t.number + 1; from = t.from; ledger = ledger_behind t.ledger (is_in row); jobs = jobs; segment = t.segment }

  -- the book's state is one
  state_now : (w : World S) → Holds S B w → IsState w.book.state
  state_now w h = subst IsState (ap (outcome S.kind B) (take_all (length w.book.accepted) w.book.accepted (omega arith)) ∙ sym h.state_is) (h.fair (length w.book.accepted) (omega arith))

  -- each event
  pub keeps : (w : World S) (e : Event J) → Holds S B w → MayHappen S B w e → Holds S B (happens S B w e)
  keeps w (Ask c) h may = more w c _ w.book.opened h (ap (λ s. refusal S.kind s c) (sym h.state_is) ∙ may.3) (λ x is. let none = may.1 in absurd cc)
      (ap (λ s. state_step S.kind s (happening_in s c)) h.state_is)
  keeps w Begin h may = slot_on w _ h (λ x is. subst (λ y. IsOpen S w.book.state y) (same_Some _ _ is) (begun w.book.state may.2))
  keeps w (Step k) h may = step_on w k h
  keeps w (Give k place) h may = subst (λ o. Holds S B (give_one S w place o)) (sym may.1) (give_on w place may.0 h (h.made_right k may.0 may.1) may.2)
  keeps w Seal h may =
      let was = h.slot_ok may.0 may.1 in
      more w Slot _ None h (ap (λ s. refusal S.kind s Slot) (sym h.state_is) ∙ was.free) (λ x is. absurd cc)
      (ap (sealed_in w.book.state) may.1 ∙ (sealed w.book.state may.0 (state_now w h) was may.2 ∙ ap (λ s. state_step S.kind s (happening_in s Slot)) h.state_is))
  keeps w Abandon h may = slot_on w None h (λ x is. absurd cc)
  keeps w (Take n) h may = take_on w n h may.0 may.2 may.3 may.4 may.5
  keeps w Tend h may = tend_on w h may.0 may.2
  keeps w (Device ok) h may = device_any w ok h
  keeps w Publish h may = publish_on w h may
  keeps w Mark h may = mark_on w h may.0
  keeps w Fail h may = give_up w w.done w.clock true h (left_any w.broken w.start w.done w.coming w.place _ _ h.disk)
  keeps w (Receipt n) h may = receipt_on w n h may
  keeps w (Look reader n) h may = look_on w reader n h
  keeps w (Stop image) h may = stop_on w image h may

  pub keeps_all : (w : World S) (events : List (Event J)) → Holds S B w → CanRun S B w events → Holds S B (run S B w events)
  keeps_all w [] h can = h
  keeps_all w (e ∷ events) h can = keeps_all (happens S B w e) events (keeps w e h can.0) can.1

  -- nothing goes back
  later_called : (w : World S) (coming : List Act) → w.coming ≡ coming → Holds S B w → IsLater S w (called S w coming)
  later_called w [] is h = record { readers = λ r. begins_all (w.readers r); marked = omega arith; receipts = λ n r. r }
  later_called w (act ∷ []) is h = record {
    readers = λ r. begins_all (w.readers r);
    marked = (marks_more w.opening w.book.marked w.book.taken (omega (arith, h.marked_in, h.kept_in))).1;
    receipts = λ n r. r;
  }
  later_called w (act ∷ next ∷ coming) is h = record { readers = λ r. begins_all (w.readers r); marked = omega arith; receipts = λ n r. r }

  later_missed : (w : World S) (coming : List Act) → IsLater S w (missed S w coming)
  later_missed w [] = record { readers = λ r. begins_all (w.readers r); marked = omega arith; receipts = λ n r. r }
  later_missed w (act ∷ coming) = record { readers = λ r. begins_all (w.readers r); marked = omega arith; receipts = λ n r. r }

  -- a reader's list is a beginning of what a stop leaves
  front_left : (w : World S) (k : ℕ) → Holds S B w → (k ≡ w.kept) ⊎ (k ≡ w.book.taken) → (r : ℕ) → Begins (w.readers r) (take k w.book.accepted)
  front_left w k h one r = begins_on (w.readers r) (take w.kept w.book.accepted) (take k w.book.accepted) (h.readers_in r)
      (begins_takes w.kept k w.book.accepted (⊎_elim (λ is. omega (arith, is)) (λ is. omega (arith, is, h.kept_in)) one))

  later_stop : (w : World S) (image : List ℕ) → Holds S B w → MayLeave w.start w.done w.coming image → IsLater S w (stopped S B w image (S.recovered image))
  later_stop w image h may =
      let f = found_in w h image may in
      subst (λ o. IsLater S w (stopped S B w image o)) (sym f.4) (record {
        readers = λ r. subst (λ j. Begins (w.readers r) (take j w.book.accepted)) (sym (count_is w f.0 f.2)) (front_left w f.0 h f.5 r);
        marked = omega arith;
        receipts = λ n r. r;
      })

  eq_or : (x y : ℕ) → (((x == y) ≡ true) × (x ≡ y)) ⊎ ((x == y) ≡ false)
  eq_or x y = elim (cases_eq x y) [ inl is ↦ inl (eq-eqb x y is, is) | inr not ↦ inr (ne_eqb x y not) ]

  look_later : (w : World S) (reader n r : ℕ) → Begins (w.readers reader) (take n w.published) → Begins (w.readers r) (cond (r == reader) (take n w.published) (w.readers r))
  look_later w reader n r may = elim (eq_or r reader) [
    | inl is ↦ subst (λ b. Begins (w.readers r) (cond b (take n w.published) (w.readers r))) (sym is.0) (subst (λ j. Begins (w.readers j) (take n w.published)) (sym is.1) may)
    | inr not ↦ subst (λ b. Begins (w.readers r) (cond b (take n w.published) (w.readers r))) (sym not) (begins_all (w.readers r))
  ]

  pub later : (w : World S) (e : Event J) → Holds S B w → MayHappen S B w e → IsLater S w (happens S B w e)
  later w (Ask c) h may = record { readers = λ r. begins_all (w.readers r); marked = omega arith; receipts = λ n r. r }
  later w Begin h may = record { readers = λ r. begins_all (w.readers r); marked = omega arith; receipts = λ n r. r }
  later w (Step k) h may = record { readers = λ r. begins_all (w.readers r); marked = omega arith; receipts = λ n r. r }
  later w (Give k place) h may = subst (λ o. IsLater S w (give_one S w place o)) (sym may.1) (record { readers = λ r. begins_all (w.readers r); marked = omega arith; receipts = λ n r. r })
  later w Seal h may = record { readers = λ r. begins_all (w.readers r); marked = omega arith; receipts = λ n r. r }
  later w Abandon h may = record { readers = λ r. begins_all (w.readers r); marked = omega arith; receipts = λ n r. r }
  later w (Take n) h may = record { readers = λ r. begins_all (w.readers r); marked = omega arith; receipts = λ n r. r }
  later w Tend h may = record { readers = λ r. begins_all (w.readers r); marked = omega arith; receipts = λ n r. r }
  later w (Device true) h may = later_called w w.coming refl h
  later w (Device false) h may = later_missed w w.coming
  later w Publish h may = record { readers = λ r. begins_all (w.readers r); marked = omega arith; receipts = λ n r. r }
  later w Mark h may = record { readers = λ r. begins_all (w.readers r); marked = omega (arith, h.marked_in, h.kept_in); receipts = λ n r. r }
  later w Fail h may = record { readers = λ r. begins_all (w.readers r); marked = omega arith; receipts = λ n r. r }
  later w (Receipt n) h may = record { readers = λ r. begins_all (w.readers r); marked = omega arith; receipts = λ m r. inr r }
  later w (Look reader n) h may = record { readers = λ r. look_later w reader n r may; marked = omega arith; receipts = λ n r. r }
  later w (Stop image) h may = later_stop w image h may
