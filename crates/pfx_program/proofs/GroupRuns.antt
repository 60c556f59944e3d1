-- How far a run of a script has come behind a group of its records.
use Rattle.std.proofs.Common.{◌≡◌, ◌⊎◌, ◌≤◌, ℕ, suc, ◌+◌, List, [], ◌∷◌, ◌++◌, length, length-append, Bool, true, Option, Some, None, is_some, Result, Err, OnOk, IfOk, IfErr, refl, sym, ap, subst, ◌∙◌, append_assoc, append-nil, inl, inr, arith}
use Rattle.std.specs.Prelude.{IfSome}
use Rattle.pfx_fault.specs.declared.refusals.Fault.{Fault}
use Rattle.pfx_machine.specs.Plain.{Plain}
use Rattle.pfx_program_script.specs.Records.{Fields, Records, ReadFails, Takes}
use Rattle.pfx_kinds.specs.declared.any.AnyJob.{AnyJob}
use Rattle.pfx_machine.specs.declared.command.Command.{Command}
use Rattle.pfx_program.specs.declared.form.OutputForm.{OutputForm}
use Rattle.pfx_program.specs.declared.groups.Behind.{Behind}
use Rattle.pfx_program.specs.declared.groups.Behind.TheVariants as left
use Rattle.pfx_program.specs.Groups.{Gathers, IsBehind, IsStill, behind_group, group_refusals, group_steps}
use Rattle.pfx_program.specs.OneRecord.{RowDone, RowFails}
use Rattle.pfx_store_engine.specs.Promises.{Promise, Laws, IsEngineFault, IsSame}
use Rattle.pfx_program.specs.Running.{run_of, Carried, Ends, Runs, Stopped}
use Rattle.std.specs.Option.{option_or}
use Rattle.pfx_program.specs.Answers.{closed_line}
use Rattle.pfx_program.specs.Reports.{IsAdded, first_of}
use Rattle.pfx_program.specs.Script.{Course, Run, Step, after, at_start, commands_of, course_from, noted, refusal_of, shown, taken, verb_steps}
use Rattle.pfx_program.specs.declared.report.AtRefusal.{AtRefusal}
use Rattle.pfx_program.specs.declared.report.AtRefusal.TheVariants.{GoOn, End}
use Rattle.pfx_program.specs.declared.report.RefusedRecord.{RefusedRecord}
use Rattle.pfx_program.specs.declared.report.Report.{Report}
use Rattle.pfx_program.proofs.GroupLemmas.{behind_none, group_long}
use Rattle.pfx_program.proofs.RunLemmas.{Goes, Noted, Progress, after_after, closes_refused, ends_with, fails, first_append, left_then, rest_of, runs, stops, stops_by, untouched}
use Rattle.pfx_program.proofs.SlotLemmas.{slots_failed}
use Rattle.pfx_program.proofs.StepLemmas.{carried_then, commands_append, same_state, stopped_after, stopped_anyway, stopped_before, stopped_wider}
use Rattle.pfx_program.proofs.Appends.{appends-nothing}

module _ {E : Type 0} (P : Promise AnyJob E) (form : OutputForm) (at_refusal : AtRefusal) (L : Laws P) where
  -- a call that changed nothing
  pub progress_same : (first script : Records) (a b c : E) (report : Report) (u v : Option (List ℕ)) → Progress P form at_refusal first script a b report u v → IsSame P b c → (P.settled b → P.settled c) → Progress P form at_refusal first script a c report u v
  progress_same first script a b c report u v h same settled = record {
    rows = h.rows;
    known = h.known;
    steps = h.steps;
    refusals = h.refusals;
    carried = subst (λ (l : List Step). Carried P l a c u v) (append-nil h.steps)
        (carried_then P L h.steps [] a b c u v v h.carried (record { text = appends-nothing v; state = same_state (P.state b) (P.state c) same.state; settled = settled; keeps = same.keeps }));
    counts = h.counts;
    refused = h.refused;
    early = h.early;
    few = h.few;
    same = λ rest. h.same rest ∙ ap (λ (s : Plain AnyJob). after h.steps h.refusals (course_from (script.place + 1) (record { form = form; state = s; accepted = report.accepted }) rest)) (sym same.state);
    goes = λ rest. h.goes rest ∙ ap (λ (s : Plain AnyJob). h.rows ++ taken at_refusal (record { form = form; state = s; accepted = report.accepted }) rest) (sym same.state);
  }

  -- records share a call only if the run goes on behind a refusal
  abbrev pub MayShare : List (Command AnyJob) → Type 0
  MayShare group = (at_refusal ≡ GoOn) ⊎ (group ≡ [])

  no_rows : {A B : Type 0} (rows : List A) (group : List B) → length rows ≡ length group → group ≡ [] → rows ≡ []
  no_rows [] group long none = refl
  no_rows (x ∷ rows) group long none = absurd (let no : suc (length rows) ≡ 0 = long ∙ ap length none in omega (arith, no))

  -- the records of a group, and what the run takes of those behind it
  pub taken_group : (rows : List Fields) (group : List (Command AnyJob)) (r : Run) (more : List Fields) → length rows ≡ length group → MayShare group → taken at_refusal r (rows ++ more) ≡ rows ++ taken at_refusal (behind_group r group) more
  taken_group rows group r more long (inl on) =
      ap (λ (p : AtRefusal). taken p r (rows ++ more)) on ∙ ap (λ (p : AtRefusal). rows ++ taken p (behind_group r group) more) (sym on)
  taken_group rows group r more long (inr none) =
      let empty : rows ≡ [] = no_rows rows group long none in
      ap (λ (l : List Fields). taken at_refusal r (l ++ more)) empty ∙ ap (λ (t : Run). taken at_refusal t more) (sym (behind_none r) ∙ ap (behind_group r) (sym none))
      ∙ ap (λ (l : List Fields). l ++ taken at_refusal (behind_group r group) more) (sym empty)

  refusals_few : (at : ℕ) (steps : List Step) → length (group_refusals at steps) ≤ length steps
  refusals_few at [] = omega arith
  refusals_few at (x ∷ steps) = by x.refusal (refusals_few (at + 1) steps)
    where
      by : (why : Option Fault) → length (group_refusals (at + 1) steps) ≤ length steps → length (noted at why ++ group_refusals (at + 1) steps) ≤ length (x ∷ steps)
      by None h = omega (arith, h)
      by (Some f) h = omega (arith, h)

  -- a group was carried out
  pub progress_group : (first script mid : Records) (a b c : E) (before later : Report) (group : List (Command AnyJob)) (u v w : Option (List ℕ)) → Progress P form at_refusal first script a b before u v → Gathers (P.state b) script mid group → MayShare group
      → Carried P (group_steps (run_of P form b before.accepted) group) b c v w
      → IsAdded before (length (commands_of (group_steps (run_of P form b before.accepted) group))) (group_refusals (script.place + 1) (group_steps (run_of P form b before.accepted) group)) later → Progress P form at_refusal first mid a c later u w
  progress_group first script mid a b c before later group u v w h g share done added =
      let r : Run = run_of P form b before.accepted in
      let x : List Step = group_steps r group in
      let q : List RefusedRecord = group_refusals (script.place + 1) x in
      let counts = added.accepted in
      let now : behind_group r group ≡ run_of P form c later.accepted = λ i. record { form = form; state = sym done.state i; accepted = sym counts i } in
      let long : length (commands_of (h.steps ++ x)) ≡ length (commands_of h.steps) + length (commands_of x) = ap length (commands_append h.steps x) ∙ length-append (commands_of h.steps) (commands_of x) in
      let more : length (h.refusals ++ q) ≡ length h.refusals + length q = length-append h.refusals q in
      let was = h.counts in
      let had = h.refused in
      let has = added.refused in
      let few = h.few in
      let each = refusals_few (script.place + 1) x in
      let one = group_long r group in
      let place = g.place in
      record {
        rows = h.rows ++ g.rows;
        known = left_then P form at_refusal L first.left (λ all (rest, split, left).
            let (more, rows, ended) = rw left at g.known in
            (more, split ∙ ap (λ (l : List Fields). h.rows ++ l) rows ∙ sym (append_assoc h.rows g.rows more), ended)) h.known;
        steps = h.steps ++ x;
        refusals = h.refusals ++ q;
        carried = carried_then P L h.steps x a b c u v w h.carried done;
        counts = omega (arith, was, counts, long);
        refused = omega (arith, had, has, more);
        early = added.first ∙ ap (λ o. option_or o (first_of q)) h.early ∙ sym (first_append h.refusals q);
        few = omega (arith, few, each, one, more, place);
        same = λ rest. ap (course_from (first.place + 1) (at_start form (P.state a))) (append_assoc h.rows g.rows rest) ∙ h.same (g.rows ++ rest)
            ∙ ap (after h.steps h.refusals) (g.course form before.accepted rest ∙ ap (λ (t : Run). after x q (course_from (mid.place + 1) t rest)) now)
            ∙ after_after h.steps x h.refusals q (course_from (mid.place + 1) (run_of P form c later.accepted) rest);
        goes = λ rest. ap (taken at_refusal (at_start form (P.state a))) (append_assoc h.rows g.rows rest) ∙ h.goes (g.rows ++ rest)
            ∙ ap (λ (l : List Fields). h.rows ++ l) (taken_group g.rows group r rest g.long share ∙ ap (λ (t : Run). g.rows ++ taken at_refusal t rest) now)
            ∙ sym (append_assoc h.rows g.rows (taken at_refusal (run_of P form c later.accepted) rest));
      }

  -- or it stopped
  pub group_stops : {most : ℕ} (first script mid : Records) (a b c : E) (report : Report) (group : List (Command AnyJob)) (f : Fault) (u v w : Option (List ℕ)) (failed : Bool) → Progress P form at_refusal first script a b report u v
      → Gathers (P.state b) script mid group → MayShare group → Stopped P most ⊥ (group_steps (run_of P form b report.accepted) group) b c v w f → Runs P form at_refusal most first failed a c u w (Err f)
  group_stops {most} first script mid a b c report group f u v w failed h g share stopped =
      let found = by first.left h.known in
      with_more found.0 found.1
    where
      by : (left : Option (List Fields)) → IfSome left (λ all. (rest : List Fields) × (all ≡ h.rows ++ rest) × (script.left ≡ Some rest)) → (more : List Fields) × IfSome left (λ all. all ≡ h.rows ++ (g.rows ++ more))
      by None k = ([], tt)
      by (Some all) (rest, split, left) = let (more, rows, ended) = rw left at g.known in (more, split ∙ ap (λ (l : List Fields). h.rows ++ l) rows)

      with_more : (more : List Fields) → IfSome first.left (λ all. all ≡ h.rows ++ (g.rows ++ more)) → Runs P form at_refusal most first failed a c u w (Err f)
      with_more more all =
          let r : Run = run_of P form b report.accepted in
          let x : List Step = group_steps r group in
          let q : List RefusedRecord = group_refusals (script.place + 1) x in
          let some : List Fields = taken at_refusal (behind_group r group) more in
          let later : Course = course_from (mid.place + 1) (behind_group r group) some in
          ends_with P form at_refusal L first script a b c report u v w failed (Err f) h (g.rows ++ more) (g.rows ++ some) (taken_group g.rows group r more g.long share) all
          (subst (λ (o : Course). Ends P most (failed ≡ true) (after h.steps h.refusals o) a c u w (Err f)) (sym (g.course form report.accepted some)) (stops_by P f (failed ≡ true) (after h.steps h.refusals (after x q later)) a c u w
          (stopped_after P L (failed ≡ true) h.steps (x ++ later.steps) a b c u v w f h.carried (stopped_before P L (failed ≡ true) x later.steps b c v w f (stopped_anyway P L (failed ≡ true) x b c v w f stopped)))))

  -- the engine failed before anything was done
  pub engine_fails : {most : ℕ} (first script : Records) (a b c : E) (report : Report) (f : Fault) (u v : Option (List ℕ)) (failed : Bool) → Progress P form at_refusal first script a b report u v → IsSame P b c → IsEngineFault P.faults (P.state b) f
      → Runs P form at_refusal most first failed a c u v (Err f)
  engine_fails {most} first script a b c report f u v failed h same why =
      let (rest, known) = rest_of P form at_refusal L first script a b report u v h in
      let some : List Fields = taken at_refusal (run_of P form b report.accepted) rest in
      let later : Course = course_from (script.place + 1) (run_of P form b report.accepted) some in
      ends_with P form at_refusal L first script a b c report u v v failed (Err f) h rest some refl (left_then P form at_refusal L first.left (λ all k. k.0) known)
      (stops_by P f (failed ≡ true) (after h.steps h.refusals later) a c u v
      (stopped_after P L (failed ≡ true) h.steps later.steps a b c u v v f h.carried (stopped_anyway P L (failed ≡ true) later.steps b c v v f
      (slots_failed P form L later.steps [] later.steps most b c v f refl (omega arith) why (inl same.state) same.keeps))))

  -- ---- a record behind a group

  -- a record that was run, and what it was reported as
  pub row_noted : (at : ℕ) (row : Fields) (why : Option Fault) (b c : E) (v w : Option (List ℕ)) (before later : Report) (accepted : ℕ) (x : RowDone P form row why before.accepted accepted b c v w)
      → IsAdded (record before { accepted = accepted }) 0 (noted at why) later → Noted before later (verb_steps (run_of P form b before.accepted) x.verb) (noted at (refusal_of (verb_steps (run_of P form b before.accepted) x.verb)))
  row_noted at row why b c v w before later accepted x added =
      let now = added.accepted in
      let counts = x.counts in
      record {
        accepted = omega (arith, now, counts);
        refused = added.refused ∙ ap (λ (o : Option Fault). before.refused + length (noted at o)) x.refused;
        early = added.first ∙ ap (λ (o : Option Fault). option_or before.first (first_of (noted at o))) x.refused;
      }

  pub row_done : (first script next : Records) (a b c : E) (before later : Report) (accepted : ℕ) (row : Fields) (why : Option Fault) (u v w : Option (List ℕ)) → Progress P form at_refusal first script a b before u v → Takes script row next
      → RowDone P form row why before.accepted accepted b c v w → IsAdded (record before { accepted = accepted }) 0 (noted next.place why) later → Goes at_refusal why → Progress P form at_refusal first next a c later u w
  row_done first script next a b c before later accepted row why u v w h took x added on =
      runs P form at_refusal L first script next a b c before later row x.verb u v w h took (sym x.means) x.carried
      (row_noted (script.place + 1) row why b c v w before later accepted x (subst (λ (n : ℕ). IsAdded (record before { accepted = accepted }) 0 (noted n why) later) took.0 added)) (subst (Goes at_refusal) x.refused on)

  -- the run ends at its refusal
  pub row_ends : {most : ℕ} → 1 ≤ most → (first script next : Records) (a b c d : E) (before report : Report) (accepted : ℕ) (row : Fields) (f : Fault) (u v w x : Option (List ℕ)) (failed : Bool) (result : Result Report Fault)
      → Progress P form at_refusal first script a b before u v → Takes script row next → at_refusal ≡ End → RowDone P form row (Some f) before.accepted accepted b c v w
      → IsAdded (record before { accepted = accepted }) 0 (noted next.place (Some f)) report → OnOk result (Carried P (shown (closed_line form (P.state c).number) ∷ []) c d w x) → OnOk result (P.settled d)
      → IfOk result (λ told. told ≡ report) → IfErr result (Stopped P 1 ⊥ (shown (closed_line form (P.state c).number) ∷ []) c d w x) → Runs P form at_refusal most first failed a d u x result
  row_ends some first script next a b c d before report accepted row f u v w x failed result h took ends y added ok settled same err =
      closes_refused P form at_refusal L some first script next a b c d before report row y.verb f u v w x failed result h took (sym y.means) ends (sym y.refused) y.carried
      (row_noted (script.place + 1) row (Some f) b c v w before report accepted y (subst (λ (n : ℕ). IsAdded (record before { accepted = accepted }) 0 (noted n (Some f)) report) took.0 added)) ok settled same err

  pub row_fails : {most : ℕ} (first script next : Records) (a b c : E) (report : Report) (row : Fields) (f : Fault) (u v w : Option (List ℕ)) → Progress P form at_refusal first script a b report u v → Takes script row next
      → RowFails P form most row next.place report.accepted b c v w f → Runs P form at_refusal most first next.failed a c u w (Err f)
  row_fails {most} first script next a b c report row f u v w h took (inl (none, is, same)) =
      untouched P form at_refusal L (λ e y. Runs P form at_refusal most first next.failed a e u y (Err f)) b c v w same
      (subst (λ (g : Fault). Runs P form at_refusal most first next.failed a b u v (Err g)) (sym is) (stops P form at_refusal L first script next a b report row u v next.failed h took (sym none)))
  row_fails first script next a b c report row f u v w h took (inr x) =
      fails P form at_refusal L first script next a b c report row x.verb f u v w next.failed h took (sym x.means) x.stopped

  -- ---- a group that was gathered from the engine's state before

  -- and carried out
  pub group_runs : (first script mid : Records) (a b c d : E) (before later : Report) (group : List (Command AnyJob)) (u v w : Option (List ℕ)) → Progress P form at_refusal first script a b before u v → Gathers (P.state b) script mid group → MayShare group
      → IsSame P b c → (P.settled b → P.settled c) → Carried P (group_steps (run_of P form c before.accepted) group) c d v w
      → IsAdded before (length (commands_of (group_steps (run_of P form c before.accepted) group))) (group_refusals (script.place + 1) (group_steps (run_of P form c before.accepted) group)) later → Progress P form at_refusal first mid a d later u w
  group_runs first script mid a b c d before later group u v w h g share same settled done added =
      progress_group first script mid a c d before later group u v w (progress_same first script a b c before u v h same settled) (subst (λ (s : Plain AnyJob). Gathers s script mid group) (sym same.state) g) share done added

  -- or it stopped
  pub group_halts : {most more : ℕ} (first script mid : Records) (a b c d : E) (report : Report) (group : List (Command AnyJob)) (f : Fault) (u v w : Option (List ℕ)) (failed : Bool) → most ≤ more → Progress P form at_refusal first script a b report u v
      → Gathers (P.state b) script mid group → MayShare group → IsSame P b c → (P.settled b → P.settled c) → Stopped P most ⊥ (group_steps (run_of P form c report.accepted) group) c d v w f → Runs P form at_refusal more first failed a d u w (Err f)
  group_halts first script mid a b c d report group f u v w failed wide h g share same settled stopped =
      group_stops first script mid a c d report group f u v w failed (progress_same first script a b c report u v h same settled) (subst (λ (s : Plain AnyJob). Gathers s script mid group) (sym same.state) g) share
      (stopped_wider P L ⊥ (group_steps (run_of P form c report.accepted) group) c d v w f wide stopped)

  -- the bound of a record's run may be wider
  row_wider : {most more : ℕ} (row : Fields) (at accepted : ℕ) (b c : E) (v w : Option (List ℕ)) (f : Fault) → most ≤ more → RowFails P form most row at accepted b c v w f → RowFails P form more row at accepted b c v w f
  row_wider row at accepted b c v w f wide (inl h) = inl h
  row_wider row at accepted b c v w f wide (inr x) = inr (record { verb = x.verb; means = x.means; stopped = stopped_wider P L ⊥ (verb_steps (run_of P form b accepted) x.verb) b c v w f wide x.stopped })

  pub row_halts : {most more : ℕ} (first script next : Records) (a b c : E) (report : Report) (at : ℕ) (row : Fields) (f : Fault) (u v w : Option (List ℕ)) → most ≤ more → at ≡ next.place → Progress P form at_refusal first script a b report u v
      → Takes script row next → RowFails P form most row at report.accepted b c v w f → Runs P form at_refusal more first next.failed a c u w (Err f)
  row_halts {most} first script next a b c report at row f u v w wide is h took x =
      row_fails first script next a b c report row f u v w h took (row_wider row next.place report.accepted b c v w f wide (subst (λ (n : ℕ). RowFails P form most row n report.accepted b c v w f) is x))

-- ---- when records share a call

pub may_share : (p : AtRefusal) (group : List (Command AnyJob)) (most : ℕ) → length group ≤ most → (p ≡ End → most ≡ 0) → (p ≡ GoOn) ⊎ (group ≡ [])
may_share GoOn group most few ends = inl refl
may_share End [] most few ends = inr refl
may_share End (c ∷ group) most few ends = let none = ends refl in absurd (omega (arith, few, none))

pub some_of : (o : Option Fault) → is_some o ≡ true → (f : Fault) × (o ≡ Some f)
some_of None there = absurd cc
some_of (Some f) there = (f, refl)

-- ---- what stands behind a group

pub still : (behind : Behind) → ((f : Fault) → behind ≡ left.Failed f → ⊥) → IsStill behind
still left.Nothing well = tt
still left.Record well = tt
still left.End well = tt
still (left.Unread f) well = tt
still (left.Failed f) well = absurd (well f refl)

pub gathers : (faults : Plain AnyJob → Fault → Type 0) (s : Plain AnyJob) (script next : Records) (row : Fields) (group : List (Command AnyJob)) (behind : Behind) → IsBehind faults s script next row group behind
    → ((f : Fault) → behind ≡ left.Failed f → ⊥) → (mid : Records) × Gathers s script mid group
gathers faults s script next row group left.Nothing (some, h) well = (next, h)
gathers faults s script next row group left.Record (mid, h, took) well = (mid, h)
gathers faults s script next row group left.End (mid, h, none) well = (mid, h)
gathers faults s script next row group (left.Unread f) (mid, h, read, failed) well = (mid, h)
gathers faults s script next row group (left.Failed f) h well = absurd (well f refl)

pub unread : (faults : Plain AnyJob → Fault → Type 0) (s : Plain AnyJob) (script next : Records) (row : Fields) (group : List (Command AnyJob)) (behind : Behind) (f : Fault) → IsBehind faults s script next row group behind
    → ((g : Fault) → behind ≡ left.Failed g → ⊥) → (behind ≡ left.Unread f) ⊎ (behind ≡ left.Failed f) → (mid : Records) × Gathers s script mid group × ReadFails mid f × (next.failed ≡ true)
unread faults s script next row group behind f h well (inl is) = rw is at h
unread faults s script next row group behind f h well (inr is) = absurd (well f is)
