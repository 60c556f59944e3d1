-- When a run may print what comes next, from when it may print its course.
use Rattle.std.proofs.Common.{◌≡◌, ◌<◌, ◌≤◌, ℕ, ◌+◌, take, drop, get_or, List, [], ◌∷◌, ◌++◌, length, length-append, Option, Some, None, Result, Ok, IfSome, refl, sym, ap, subst, ◌∙◌, append_assoc, append-nil, arith}
use Rattle.std.specs.Io.KnownBytes.{Appends}
use Rattle.std.proofs.lemmas.List.{take-append-drop, take_more}
use Rattle.pfx_machine.specs.Plain.{Plain}
use Rattle.pfx_machine.specs.declared.command.Command.{Command}
use Rattle.pfx_machine.specs.declared.command.Reply.{Reply}
use Rattle.pfx_kinds.specs.declared.any.AnyJob.{AnyJob}
use Rattle.pfx_program_script.specs.Records.{Fields, Records, Takes}
use Rattle.pfx_program_script.specs.Verbs.{Said, verb_of}
use Rattle.pfx_program.specs.declared.form.OutputForm.{OutputForm}
use Rattle.pfx_program.specs.Answers.{closed_line}
use Rattle.pfx_program.specs.Groups.{Gathers, behind_group, group_steps, told_line, told_text}
use Rattle.pfx_program.specs.Printing.{MayPrint, MayRun, MayTell, Rule, line_of, lines_of}
use Rattle.pfx_store_engine.specs.Promises.{Promise, Laws, IsSame, slots_for}
use Rattle.pfx_program.specs.Running.{run_of, ran_step, ran_steps, Carried}
use Rattle.pfx_fault.specs.declared.refusals.Fault.{Fault}
use Rattle.pfx_program.specs.Script.{Run, Step, after, at_start, commands_of, course_from, moved, refusal_of, shown, silent, taken, text_of, verb_steps}
use Rattle.pfx_program.specs.declared.report.AtRefusal.{AtRefusal}
use Rattle.pfx_program.specs.declared.report.AtRefusal.TheVariants.{GoOn, End}
use Rattle.pfx_program.specs.declared.report.Report.{Report}
use Rattle.pfx_store_engine.specs.Sharing.{AreTold, Told, accepted_of}
use Rattle.pfx_program.proofs.Appends.{appends-nothing}
use Rattle.pfx_program.proofs.GroupLemmas.{step_line, told_commands, told_group, told_split, told_step, told_steps}
use Rattle.pfx_program.proofs.GroupRuns.{MayShare, progress_same, taken_group}
use Rattle.pfx_program.proofs.RunLemmas.{Progress, from_none, from_verb, taken_none, taken_refused, taken_row}
use Rattle.pfx_program.proofs.SlotLemmas.{ran_append, ran_commands}
use Rattle.pfx_program.proofs.StepLemmas.{commands_append, same_state, then_text}
use Rattle.pfx_kinds.specs.AnyKind.{any_kind}

-- the entry that comes next
pub next_split : {A : Type 0} (xs : List A) (i : ℕ) (x : A) → i < length xs → x ≡ get_or xs i x → xs ≡ take i xs ++ x ∷ drop (i + 1) xs
next_split xs i x within is =
    sym (take-append-drop (i + 1) xs) ∙ ap (λ l. l ++ drop (i + 1) xs) (take_more xs i x within ∙ ap (λ y. take i xs ++ y ∷ []) (sym is)) ∙ append_assoc (take i xs) (x ∷ []) (drop (i + 1) xs)

module _ {E : Type 0} (P : Promise AnyJob E) (L : Laws P) (allows : Rule E) where
  -- the first of some steps, once its command is kept
  pub may_show : (a b : E) (was : Option (List ℕ)) (x : Step) (more : List Step) → MayPrint P allows a was (x ∷ more) → P.keeps a (commands_of (x ∷ [])) (length (commands_of (x ∷ []))) b → allows b was x.text
  may_show a b was x more h kept = h [] x [] more refl b kept was (appends-nothing was)

  -- a step that carries no command out
  pub may_show_text : {why : Option Fault} (a b : E) (was : Option (List ℕ)) (x : Step) (text : List ℕ) (more : List Step) → MayPrint P allows a was (x ∷ more) → x ≡ silent text why → P.keeps a [] 0 b → allows b was text
  may_show_text a b was x text more h is kept =
      subst (λ (y : Step). allows b was y.text) is (may_show a b was x more h (subst (λ (y : Step). P.keeps a (commands_of (y ∷ [])) (length (commands_of (y ∷ []))) b) (sym is) kept))

  -- the first ones of some steps
  pub may_less : (a : E) (was : Option (List ℕ)) (steps first rest : List Step) → steps ≡ first ++ rest → MayPrint P allows a was steps → MayPrint P allows a was first
  may_less a was steps first rest is h = λ printed x tried more split.
      h printed x tried (more ++ rest) (is ∙ ap (λ (l : List Step). l ++ rest) split ∙ append_assoc printed (x ∷ (tried ++ more)) rest ∙ ap (λ (l : List Step). printed ++ x ∷ l) (append_assoc tried more rest))

  -- those behind the first ones, once these were carried out and printed
  pub may_more : (first more : List Step) (a b : E) (was is : Option (List ℕ)) → Carried P first a b was is → MayPrint P allows a was (first ++ more) → MayPrint P allows b is more
  may_more first more a b was is done h = λ printed x tried rest split now kept now_is text.
      h (first ++ printed) x tried rest (ap (λ (l : List Step). first ++ l) split ∙ sym (append_assoc first printed (x ∷ (tried ++ rest)))) now (keeps printed x tried now kept) now_is (then_text was is now_is first printed done.text text)
    where
      split_by : (printed : List Step) (l : List Step) → commands_of ((first ++ printed) ++ l) ≡ commands_of first ++ commands_of (printed ++ l)
      split_by printed l = ap commands_of (append_assoc first printed l) ∙ commands_append first (printed ++ l)

      keeps : (printed : List Step) (x : Step) (tried : List Step) (now : E) → P.keeps b (commands_of (printed ++ x ∷ tried)) (length (commands_of (printed ++ x ∷ []))) now
          → P.keeps a (commands_of ((first ++ printed) ++ x ∷ tried)) (length (commands_of ((first ++ printed) ++ x ∷ []))) now
      keeps printed x tried now kept =
          let G : List (Command AnyJob) = commands_of (printed ++ x ∷ tried) in
          let n : ℕ = length (commands_of (printed ++ x ∷ [])) in
          let long : length (commands_of first) + n ≡ length (commands_of ((first ++ printed) ++ x ∷ [])) =
          sym (ap length (split_by printed (x ∷ [])) ∙ length-append (commands_of first) (commands_of (printed ++ x ∷ []))) in
          subst (λ (m : ℕ). P.keeps a (commands_of ((first ++ printed) ++ x ∷ tried)) m now) long
          (subst (λ (H : List (Command AnyJob)). P.keeps a H (length (commands_of first) + n) now) (sym (split_by printed (x ∷ tried))) (L.more a b now (commands_of first) G n done.settled done.keeps kept))

  -- a call that changed nothing
  nothing : (a b : E) (was : Option (List ℕ)) → IsSame P a b → (P.settled a → P.settled b) → Carried P [] a b was was
  nothing a b was same settled = record { text = appends-nothing was; state = same_state (P.state a) (P.state b) same.state; settled = settled; keeps = same.keeps }

  pub may_still : (a b : E) (was : Option (List ℕ)) (steps : List Step) → IsSame P a b → (P.settled a → P.settled b) → MayPrint P allows a was steps → MayPrint P allows b was steps
  may_still a b was steps same settled h = may_more [] steps a b was was (nothing a b was same settled) h

  -- of steps of which all are kept each first one is
  kept_first : (a b : E) (printed : List Step) (x : Step) (rest : List Step) → P.keeps a (commands_of (printed ++ x ∷ rest)) (length (commands_of (printed ++ x ∷ rest))) b
      → P.keeps a (commands_of (printed ++ x ∷ rest)) (length (commands_of (printed ++ x ∷ []))) b
  kept_first a b printed x rest kept =
      let all : commands_of (printed ++ x ∷ rest) ≡ commands_of (printed ++ x ∷ []) ++ commands_of rest = ap commands_of (sym (append_assoc printed (x ∷ []) rest)) ∙ commands_append (printed ++ x ∷ []) rest in
      let long = ap length all ∙ length-append (commands_of (printed ++ x ∷ [])) (commands_of rest) in
      L.fewer a b (commands_of (printed ++ x ∷ rest)) (length (commands_of (printed ++ x ∷ rest))) (length (commands_of (printed ++ x ∷ []))) (omega (arith, long)) kept

  -- the lines of Slots that were carried out
  pub may_ran : (a b : E) (was : Option (List ℕ)) (form : OutputForm) (said : List (ℕ × Reply)) (steps more : List Step) → steps ≡ ran_steps form said ++ more → MayPrint P allows a was steps → P.keeps a (slots_for said) (length said) b
      → length (slots_for {J = AnyJob} said) ≡ length said → MayTell allows b was (line_of form) (lines_of form) said
  may_ran a b was form said steps more is h kept long front x back split shows text =
      let all : ran_steps form said ≡ ran_steps form front ++ ran_step form x ∷ ran_steps form back = ap (ran_steps form) split ∙ ran_append form front (x ∷ back) in
      let commands : slots_for said ≡ commands_of (ran_steps form front ++ ran_step form x ∷ ran_steps form back) = sym (ran_commands form said) ∙ ap commands_of all in
      h (ran_steps form front) (ran_step form x) (ran_steps form back) more (is ∙ ap (λ (l : List Step). l ++ more) all ∙ append_assoc (ran_steps form front) (ran_step form x ∷ ran_steps form back) more) b
      (kept_first a b (ran_steps form front) (ran_step form x) (ran_steps form back) (subst (λ (H : List (Command AnyJob)). P.keeps a H (length H) b) commands (subst (λ (n : ℕ). P.keeps a (slots_for said) n b) (sym long) kept))) shows text

  -- the lines of commands that were told something
  pub may_told : (a b : E) (was : Option (List ℕ)) (form : OutputForm) (s : Plain AnyJob) (H : List (Command AnyJob)) (told : List Told) (steps : List Step) → steps ≡ told_steps form H told → AreTold any_kind s H told → MayPrint P allows a was steps
      → P.keeps a (accepted_of H told) (length (accepted_of H told)) b → MayTell allows b was (told_line form) (told_text form) told
  may_told a b was form s H told steps is answered h kept front x back split shows text =
      let (printed, c, rest, at, lines) = told_split form s H front x back (subst (λ (l : List Told). AreTold any_kind s H l) split answered) in
      let all : told_steps form H told ≡ printed ++ told_step form c x ∷ rest = ap (told_steps form H) split ∙ at in
      let commands : accepted_of H told ≡ commands_of (printed ++ told_step form c x ∷ rest) = sym (told_commands form H told) ∙ ap commands_of all in
      subst (λ (l : List ℕ). allows b shows l) (step_line form c x)
      (h printed (told_step form c x) rest [] (is ∙ all ∙ ap (λ (l : List Step). printed ++ told_step form c x ∷ l) (sym (append-nil rest))) b
      (kept_first a b printed (told_step form c x) rest (subst (λ (G : List (Command AnyJob)). P.keeps a G (length G) b) commands kept)) shows (subst (λ (t : List ℕ). Appends was shows t) (sym lines) text))

  -- ---- the records of a script

  -- those that are left behind some that were run
  pub may_run_on : (form : OutputForm) (at_refusal : AtRefusal) (first script : Records) (a b : E) (report : Report) (was is : Option (List ℕ)) → Progress P form at_refusal first script a b report was is → MayRun P allows form at_refusal first 0 a was
      → MayRun P allows form at_refusal script report.accepted b is
  may_run_on form at_refusal first script a b report was is p h records known =
      may_more p.steps (course_from (script.place + 1) (run_of P form b report.accepted) records).steps a b was is p.carried
      (subst (λ (l : List Step). MayPrint P allows a was l) (ap (λ o. o.steps) (p.same records)) (h (p.rows ++ records) (all_of first.left p.known)))
    where
      all_of : (left : Option (List Fields)) → IfSome left (λ all. (rest : List Fields) × (all ≡ p.rows ++ rest) × (script.left ≡ Some rest)) → IfSome left (λ all. taken at_refusal (at_start form (P.state a)) all ≡ p.rows ++ records)
      all_of None k = tt
      all_of (Some all) (rest, split, left) =
          let same : taken at_refusal (run_of P form b report.accepted) rest ≡ records = rw left at known in
          ap (taken at_refusal (at_start form (P.state a))) split ∙ p.goes rest ∙ ap (λ (l : List Fields). p.rows ++ l) same

  -- what is known of the records that are left where the next one is
  next_of : (script next : Records) (row : Fields) → IfSome script.left (λ rows. (rest : List Fields) × (rows ≡ row ∷ rest) × (next.left ≡ Some rest)) → (more : List Fields) × IfSome script.left (λ all. all ≡ row ∷ more)
  next_of script next row took = by script.left took
    where
      by : (left : Option (List Fields)) → IfSome left (λ rows. (rest : List Fields) × (rows ≡ row ∷ rest) × (next.left ≡ Some rest)) → (more : List Fields) × IfSome left (λ all. all ≡ row ∷ more)
      by None k = ([], tt)
      by (Some all) (rest, split, left) = (rest, split)

  all_taken : (at_refusal : AtRefusal) (r : Run) (left : Option (List Fields)) (all some : List Fields) → taken at_refusal r all ≡ some → IfSome left (λ rows. rows ≡ all) → IfSome left (λ rows. taken at_refusal r rows ≡ some)
  all_taken at_refusal r None all some is known = tt
  all_taken at_refusal r (Some rows) all some is known = ap (taken at_refusal r) known ∙ is

  -- the next one
  pub may_row : (form : OutputForm) (at_refusal : AtRefusal) (script next : Records) (row : Fields) (verb : Said) (e : E) (accepted : ℕ) (was : Option (List ℕ)) → MayRun P allows form at_refusal script accepted e was → Takes script row next
      → verb_of row ≡ Some verb → MayPrint P allows e was (verb_steps (run_of P form e accepted) verb)
  may_row form at_refusal script next row verb e accepted was h (place, whole, took) means =
      let found = next_of script next row took in
      let r : Run = run_of P form e accepted in
      let (tail, takes) = taken_row at_refusal r row found.0 in
      may_less e was (course_from (script.place + 1) r (row ∷ tail)).steps (verb_steps r verb) _ (ap (λ o. o.steps) (from_verb (script.place + 1) r row tail verb (sym means)))
      (h (row ∷ tail) (all_taken at_refusal r script.left (row ∷ found.0) (row ∷ tail) takes found.1))

  -- those of a group
  pub may_group : (form : OutputForm) (at_refusal : AtRefusal) (script mid : Records) (group : List (Command AnyJob)) (e : E) (accepted : ℕ) (was : Option (List ℕ)) → MayRun P allows form at_refusal script accepted e was → Gathers (P.state e) script mid group
      → MayShare P form at_refusal L group → MayPrint P allows e was (group_steps (run_of P form e accepted) group)
  may_group form at_refusal script mid group e accepted was h g share =
      let found = by script.left g.known in
      let r : Run = run_of P form e accepted in
      let some : List Fields = taken at_refusal (behind_group r group) found.0 in
      may_less e was (course_from (script.place + 1) r (g.rows ++ some)).steps (group_steps r group) _ (ap (λ o. o.steps) (g.course form accepted some))
      (h (g.rows ++ some) (all_taken at_refusal r script.left (g.rows ++ found.0) (g.rows ++ some) (taken_group P form at_refusal L g.rows group r found.0 g.long share) found.1))
    where
      by : (left : Option (List Fields)) → IfSome left (λ all. (rest : List Fields) × (all ≡ g.rows ++ rest) × (mid.left ≡ Some rest)) → (more : List Fields) × IfSome left (λ all. all ≡ g.rows ++ more)
      by None k = ([], tt)
      by (Some all) (rest, split, left) = (rest, split)

  -- none is left
  pub may_close : (form : OutputForm) (at_refusal : AtRefusal) (script : Records) (e : E) (accepted : ℕ) (was : Option (List ℕ)) → MayRun P allows form at_refusal script accepted e was → IfSome script.left (λ rows. rows ≡ [])
      → MayPrint P allows e was (shown (closed_line form (P.state e).number) ∷ [])
  may_close form at_refusal script e accepted was h over =
      subst (λ (l : List Step). MayPrint P allows e was l) (ap (λ o. o.steps) (from_none (script.place + 1) (run_of P form e accepted)))
      (h [] (all_taken at_refusal (run_of P form e accepted) script.left [] [] (taken_none at_refusal (run_of P form e accepted)) over))

  -- the next one was refused, and the run ends there
  pub may_end : (form : OutputForm) (at_refusal : AtRefusal) (script next : Records) (row : Fields) (verb : Said) (f : Fault) (a b : E) (accepted later : ℕ) (was is : Option (List ℕ)) → MayRun P allows form at_refusal script accepted a was
      → Takes script row next → verb_of row ≡ Some verb → at_refusal ≡ End → refusal_of (verb_steps (run_of P form a accepted) verb) ≡ Some f → Carried P (verb_steps (run_of P form a accepted) verb) a b was is
      → later ≡ accepted + length (commands_of (verb_steps (run_of P form a accepted) verb)) → MayPrint P allows b is (shown (closed_line form (P.state b).number) ∷ [])
  may_end form at_refusal script next row verb f a b accepted later was is h (place, whole, took) means ends why done counts =
      let found = next_of script next row took in
      let r : Run = run_of P form a accepted in
      let x : List Step = verb_steps r verb in
      let last : taken at_refusal r (row ∷ found.0) ≡ row ∷ [] = ap (λ (p : AtRefusal). taken p r (row ∷ found.0)) ends ∙ taken_refused r row found.0 verb f (sym means) why in
      let now : moved r (commands_of x) ≡ run_of P form b later = λ i. record { form = form; state = sym done.state i; accepted = sym counts i } in
      let end : (course_from (script.place + 1 + 1) (moved r (commands_of x)) []).steps ≡ shown (closed_line form (P.state b).number) ∷ [] =
      ap (λ (t : Run). (course_from (script.place + 1 + 1) t []).steps) now ∙ ap (λ o. o.steps) (from_none (script.place + 1 + 1) (run_of P form b later)) in
      may_more x (shown (closed_line form (P.state b).number) ∷ []) a b was is done (subst (λ (l : List Step). MayPrint P allows a was (x ++ l)) end
      (subst (λ (l : List Step). MayPrint P allows a was l) (ap (λ o. o.steps) (from_verb (script.place + 1) r row [] verb (sym means)))
      (h (row ∷ []) (all_taken at_refusal r script.left (row ∷ found.0) (row ∷ []) last found.1))))

  -- those of a group that was gathered from the engine's state before
  pub may_gathered : (form : OutputForm) (at_refusal : AtRefusal) (first script mid : Records) (a b c : E) (report : Report) (group : List (Command AnyJob)) (u v : Option (List ℕ)) → MayRun P allows form at_refusal first 0 a u
      → Progress P form at_refusal first script a b report u v → Gathers (P.state b) script mid group → MayShare P form at_refusal L group → IsSame P b c → (P.settled b → P.settled c)
      → MayPrint P allows c v (group_steps (run_of P form c report.accepted) group)
  may_gathered form at_refusal first script mid a b c report group u v h p g share same settled =
      may_group form at_refusal script mid group c report.accepted v (may_run_on form at_refusal first script a c report u v (progress_same P form at_refusal L first script a b c report u v p same settled) h)
      (subst (λ (s : Plain AnyJob). Gathers s script mid group) (sym same.state) g) share
