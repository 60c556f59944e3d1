-- Commands that share a call, and the records that ask for them.
use Rattle.std.proofs.Common.{◌≡◌, ◌<◌, ◌≤◌, ◌⊎◌, inl, inr, ℕ, suc, ◌+◌, List, [], ◌∷◌, ◌++◌, length, length-append, nat_lt, if◌then◌else◌, Bool, true, false, Option, Some, None, Result, Ok, Err, refl, sym, ap, subst, ◌∙◌, append_assoc, append-nil, add-zero, take, drop, get_or, arith}
use Rattle.std.specs.Prelude.{slice_get, IfSome}
use Rattle.std.specs.Option.{option_map}
use Rattle.std.specs.Io.KnownBytes.{Appends}
use Rattle.std.proofs.lemmas.Bool.{lt-ltb}
use Rattle.std.proofs.lemmas.List.{take-append-drop, take_more, length-take-le}
use Rattle.csv.proofs.WriteFacts.{appends-more}
use Rattle.pfx_fault.specs.declared.refusals.Fault.{Fault}
use Rattle.pfx_fault.specs.declared.refusals.Fault.TheVariants as fault
use Rattle.pfx_kinds.specs.AnyKind.{any_kind, any_laws}
use Rattle.pfx_kinds.specs.Starts.{any_start}
use Rattle.pfx_kinds.specs.Units.{unit_of, is_taken}
use Rattle.pfx_kinds.specs.declared.any.AnyJob.{AnyJob}
use Rattle.pfx_machine.specs.Plain.{Plain}
use Rattle.pfx_machine.specs.Outcome.{outcome}
use Rattle.pfx_machine.specs.Refusals.{refusal, reply}
use Rattle.pfx_machine.specs.Runs.{answer}
use Rattle.pfx_machine.specs.Steps.{job_step, state_step, happening_in}
use Rattle.pfx_machine.specs.declared.plain.Happening.{Happening}
use Rattle.pfx_machine.specs.declared.plain.Happening.TheVariants.{Given as given, Taken as taken}
use Rattle.pfx_machine.specs.declared.command.Command.{Command}
use Rattle.pfx_machine.specs.declared.command.Command.TheVariants.{Submit, Slot, Withdraw, Reweigh}
use Rattle.pfx_machine.specs.declared.command.Reply.{Reply}
use Rattle.pfx_machine.specs.declared.faults.MachineFault.{MachineFault}
use Rattle.pfx_machine.proofs.Compose.{outcome-none, outcome-outcome}
use Rattle.pfx_machine.proofs.Snoc.{outcome-snoc}
use Rattle.pfx_program_script.specs.Records.{Fields, Records, Takes}
use Rattle.pfx_program_script.specs.Verbs.{submit, withdraw, verb_of}
use Rattle.pfx_program.specs.declared.form.OutputForm.{OutputForm}
use Rattle.pfx_program.specs.declared.groups.Joining.{Joining}
use Rattle.pfx_program.specs.declared.groups.Joining.TheVariants as joining
use Rattle.pfx_program.specs.Answers.{reply_line}
use Rattle.pfx_program.specs.Faults.{fault_of_machine}
use Rattle.pfx_program.specs.Grants.{counted, counted_at, is_next, granted}
use Rattle.pfx_program.specs.Groups.{Avoid, Gathers, IsGiven, IsJoining, Joins, ToldFail, behind_group, group_refusals, group_steps, run_at, told_count, told_line, told_refusals, told_text, touches}
use Rattle.pfx_store_engine.specs.Promises.{Promise, Laws, IsEngineFault, IsSame}
use Rattle.pfx_program.specs.Running.{run_of, Carried, Halts, LineFails, Stopped}
use Rattle.pfx_program.specs.Reports.{IsAdded, first_of}
use Rattle.pfx_program.specs.Script.{Run, Step, after, answered, carried, command_step, commands_of, course_from, job_by, moved, noted, refusal_of, refused, text_of, with_command}
use Rattle.pfx_program.specs.declared.report.RefusedRecord.{RefusedRecord}
use Rattle.pfx_program.specs.declared.report.Report.{Report}
use Rattle.std.specs.Option.{option_or}
use Rattle.pfx_store_engine.specs.Sharing.{AreChanges, IsChange, AreAllDone, AreAllLeft, AreTold, Told, accepted_of}
use Rattle.pfx_program.proofs.Appends.{appends-kept}
use Rattle.pfx_program.proofs.Granting.{get_step}
use Rattle.pfx_program.proofs.RunLemmas.{after_after, first_append, from_verb}
use Rattle.pfx_program.proofs.SlotLemmas.{moved_none, moved_then, slots_failed}
use Rattle.pfx_program.proofs.StepLemmas.{carried_none, commands_append, given_step, refusal_one}

-- ---- the steps of commands

pub group_none : (r : Run) → group_steps r [] ≡ []
unfolding group_steps
group_none r = refl

group_one : (r : Run) (c : Command AnyJob) (H : List (Command AnyJob)) → group_steps r (c ∷ H) ≡ command_step r c ∷ group_steps (moved r (commands_of (command_step r c ∷ []))) H
unfolding group_steps
group_one r c H = refl

pub behind_none : (r : Run) → behind_group r [] ≡ r
behind_none r = ap (λ (l : List Step). moved r (commands_of l)) (group_none r) ∙ moved_none r

behind_one : (r : Run) (c : Command AnyJob) (H : List (Command AnyJob)) → behind_group r (c ∷ H) ≡ behind_group (moved r (commands_of (command_step r c ∷ []))) H
behind_one r c H =
    let next : Run = moved r (commands_of (command_step r c ∷ [])) in
    ap (λ (l : List Step). moved r (commands_of l)) (group_one r c H) ∙ ap (moved r) (commands_append (command_step r c ∷ []) (group_steps next H))
    ∙ sym (moved_then r (commands_of (command_step r c ∷ [])) (commands_of (group_steps next H)))

pub group_append : (r : Run) (H G : List (Command AnyJob)) → group_steps r (H ++ G) ≡ group_steps r H ++ group_steps (behind_group r H) G
group_append r [] G = ap (λ (t : Run). group_steps t G) (sym (behind_none r)) ∙ ap (λ (l : List Step). l ++ group_steps (behind_group r []) G) (sym (group_none r))
group_append r (c ∷ H) G =
    let next : Run = moved r (commands_of (command_step r c ∷ [])) in
    group_one r c (H ++ G) ∙ ap (λ (l : List Step). command_step r c ∷ l) (group_append next H G)
    ∙ ap (λ (t : Run). command_step r c ∷ (group_steps next H ++ group_steps t G)) (sym (behind_one r c H))
    ∙ ap (λ (l : List Step). l ++ group_steps (behind_group r (c ∷ H)) G) (sym (group_one r c H))

-- a step for each
pub group_long : (r : Run) (H : List (Command AnyJob)) → length (group_steps r H) ≡ length H
group_long r [] = ap length (group_none r)
group_long r (c ∷ H) = ap length (group_one r c H) ∙ ap suc (group_long (moved r (commands_of (command_step r c ∷ []))) H)

-- the refused ones of two parts
refusals_append : (at : ℕ) (a b : List Step) → group_refusals at (a ++ b) ≡ group_refusals at a ++ group_refusals (at + length a) b
refusals_append at [] b = ap (λ (n : ℕ). group_refusals n b) (sym (add-zero at))
refusals_append at (x ∷ a) b =
    let sum : at + 1 + length a ≡ at + suc (length a) = omega arith in
    ap (λ (l : List RefusedRecord). noted at x.refusal ++ l) (refusals_append (at + 1) a b ∙ ap (λ (n : ℕ). group_refusals (at + 1) a ++ group_refusals n b) sum)
    ∙ sym (append_assoc (noted at x.refusal) (group_refusals (at + 1) a) (group_refusals (at + suc (length a)) b))

one_refusal : (at : ℕ) (x : Step) → group_refusals at (x ∷ []) ≡ noted at (refusal_of (x ∷ []))
one_refusal at x = append-nil (noted at x.refusal) ∙ ap (noted at) (sym (refusal_one x.refusal))

-- one command more
group_snoc : (r : Run) (H : List (Command AnyJob)) (c : Command AnyJob) → group_steps r (H ++ c ∷ []) ≡ group_steps r H ++ command_step (behind_group r H) c ∷ []
group_snoc r H c =
    let last : Run = behind_group r H in
    group_append r H (c ∷ []) ∙ ap (λ (l : List Step). group_steps r H ++ l)
    (group_one last c [] ∙ ap (λ (l : List Step). command_step last c ∷ l) (group_none (moved last (commands_of (command_step last c ∷ [])))))

behind_snoc : (r : Run) (H : List (Command AnyJob)) (c : Command AnyJob) → behind_group r (H ++ c ∷ []) ≡ moved (behind_group r H) (commands_of (command_step (behind_group r H) c ∷ []))
behind_snoc r H c =
    let x : List Step = command_step (behind_group r H) c ∷ [] in
    ap (λ (l : List Step). moved r (commands_of l)) (group_snoc r H c) ∙ ap (moved r) (commands_append (group_steps r H) x) ∙ sym (moved_then r (commands_of (group_steps r H)) (commands_of x))

-- ---- what they are told

abbrev pub told_step : OutputForm → Command AnyJob → Told → Step
told_step form c (Ok x) = carried (reply_line form x.0 x.1) c
told_step form c (Err f) = refused form (fault_of_machine f)

abbrev pub told_steps : OutputForm → List (Command AnyJob) → List Told → List Step
told_steps form [] told = []
told_steps form (c ∷ H) [] = []
told_steps form (c ∷ H) (x ∷ told) = told_step form c x ∷ told_steps form H told

told_one : (r : Run) (c : Command AnyJob) (x : ℕ × Reply) → r.accepted < 1048576 → answer any_kind r.state c ≡ Ok x.1 → x.0 ≡ r.state.number + 1 → command_step r c ≡ told_step r.form c (Ok x)
told_one r c x few accepted next =
    ap (λ (b : Bool). if b then answered r c (answer any_kind r.state c) else refused r.form fault.SessionFull) (lt-ltb r.accepted 1048576 few)
    ∙ ap (answered r c) accepted ∙ ap (λ (n : ℕ). carried (reply_line r.form n x.1) c) (sym next)

told_none : (r : Run) (c : Command AnyJob) (f : MachineFault) → r.accepted < 1048576 → answer any_kind r.state c ≡ Err f → command_step r c ≡ told_step r.form c (Err f)
told_none r c f few refusal =
    ap (λ (b : Bool). if b then answered r c (answer any_kind r.state c) else refused r.form fault.SessionFull) (lt-ltb r.accepted 1048576 few)
    ∙ ap (answered r c) refusal

-- the steps of commands that are told so
pub told_group : (r : Run) (H : List (Command AnyJob)) (told : List Told) → AreTold any_kind r.state H told → r.accepted + length H ≤ 1048576 → group_steps r H ≡ told_steps r.form H told
told_group r [] [] all few = group_none r
told_group r [] (x ∷ told) all few = absurd all
told_group r (c ∷ H) [] all few = absurd all
told_group r (c ∷ H) (Ok x ∷ told) (accepted, next, more) few =
    let is : command_step r c ≡ told_step r.form c (Ok x) = told_one r c x (omega (arith, few)) accepted next in
    group_one r c H ∙ ap (λ (y : Step). y ∷ group_steps (moved r (commands_of (y ∷ []))) H) is
    ∙ ap (λ (l : List Step). told_step r.form c (Ok x) ∷ l) (told_group (moved r (c ∷ [])) H told more (omega (arith, few)))
told_group r (c ∷ H) (Err f ∷ told) (refusal, more) few =
    let is : command_step r c ≡ told_step r.form c (Err f) = told_none r c f (omega (arith, few)) refusal in
    group_one r c H ∙ ap (λ (y : Step). y ∷ group_steps (moved r (commands_of (y ∷ []))) H) is
    ∙ ap (λ (t : Run). told_step r.form c (Err f) ∷ group_steps t H) (moved_none r)
    ∙ ap (λ (l : List Step). told_step r.form c (Err f) ∷ l) (told_group r H told more (omega (arith, few)))

pub told_commands : (form : OutputForm) (H : List (Command AnyJob)) (told : List Told) → commands_of (told_steps form H told) ≡ accepted_of H told
told_commands form [] told = refl
told_commands form (c ∷ H) [] = refl
told_commands form (c ∷ H) (Ok x ∷ told) = ap (λ (l : List (Command AnyJob)). c ∷ l) (told_commands form H told)
told_commands form (c ∷ H) (Err f ∷ told) = told_commands form H told

told_long : (form : OutputForm) (s : Plain AnyJob) (H : List (Command AnyJob)) (told : List Told) → AreTold any_kind s H told → length (told_steps form H told) ≡ length H
told_long form s [] [] all = refl
told_long form s [] (x ∷ told) all = absurd all
told_long form s (c ∷ H) [] all = absurd all
told_long form s (c ∷ H) (Ok x ∷ told) (accepted, next, more) = ap suc (told_long form (outcome any_kind s (c ∷ [])) H told more)
told_long form s (c ∷ H) (Err f ∷ told) (refusal, more) = ap suc (told_long form s H told more)

told_lines : (form : OutputForm) (s : Plain AnyJob) (H : List (Command AnyJob)) (told : List Told) → AreTold any_kind s H told → text_of (told_steps form H told) ≡ told_text form told
told_lines form s [] [] all = refl
told_lines form s [] (x ∷ told) all = absurd all
told_lines form s (c ∷ H) [] all = absurd all
told_lines form s (c ∷ H) (Ok x ∷ told) (accepted, next, more) = ap (λ (l : List ℕ). told_line form (Ok x) ++ l) (told_lines form (outcome any_kind s (c ∷ [])) H told more)
told_lines form s (c ∷ H) (Err f ∷ told) (refusal, more) = ap (λ (l : List ℕ). told_line form (Err f) ++ l) (told_lines form s H told more)

pub told_counts : (s : Plain AnyJob) (H : List (Command AnyJob)) (told : List Told) → AreTold any_kind s H told → told_count told ≡ length (accepted_of H told)
told_counts s [] [] all = refl
told_counts s [] (x ∷ told) all = absurd all
told_counts s (c ∷ H) [] all = absurd all
told_counts s (c ∷ H) (Ok x ∷ told) (accepted, next, more) = let rest = told_counts (outcome any_kind s (c ∷ [])) H told more in omega (arith, rest)
told_counts s (c ∷ H) (Err f ∷ told) (refusal, more) = told_counts s H told more

pub told_refused : (form : OutputForm) (s : Plain AnyJob) (at : ℕ) (H : List (Command AnyJob)) (told : List Told) → AreTold any_kind s H told → group_refusals at (told_steps form H told) ≡ told_refusals at told
told_refused form s at [] [] all = refl
told_refused form s at [] (x ∷ told) all = absurd all
told_refused form s at (c ∷ H) [] all = absurd all
told_refused form s at (c ∷ H) (Ok x ∷ told) (accepted, next, more) = told_refused form (outcome any_kind s (c ∷ [])) (at + 1) H told more
told_refused form s at (c ∷ H) (Err f ∷ told) (refusal, more) = ap (λ (l : List RefusedRecord). record { at = at; fault = fault_of_machine f } ∷ l) (told_refused form s (at + 1) H told more)

-- the step of the command behind some first ones
pub told_split : (form : OutputForm) (s : Plain AnyJob) (H : List (Command AnyJob)) (front : List Told) (x : Told) (back : List Told) → AreTold any_kind s H (front ++ x ∷ back)
    → (printed : List Step) × (c : Command AnyJob) × (rest : List Step) × (told_steps form H (front ++ x ∷ back) ≡ printed ++ told_step form c x ∷ rest) × (text_of printed ≡ told_text form front)
told_split form s [] [] x back all = absurd all
told_split form s [] (y ∷ front) x back all = absurd all
told_split form s (c ∷ H) [] x back all = ([], c, told_steps form H back, refl, refl)
told_split form s (c ∷ H) (Ok y ∷ front) x back (accepted, next, more) =
    let (printed, d, rest, split, text) = told_split form (outcome any_kind s (c ∷ [])) H front x back more in
    (told_step form c (Ok y) ∷ printed, d, rest, ap (λ (l : List Step). told_step form c (Ok y) ∷ l) split, ap (λ (l : List ℕ). told_line form (Ok y) ++ l) text)
told_split form s (c ∷ H) (Err f ∷ front) x back (refusal, more) =
    let (printed, d, rest, split, text) = told_split form s H front x back more in
    (told_step form c (Err f) ∷ printed, d, rest, ap (λ (l : List Step). told_step form c (Err f) ∷ l) split, ap (λ (l : List ℕ). told_line form (Err f) ++ l) text)

pub step_line : (form : OutputForm) (c : Command AnyJob) (x : Told) → (told_step form c x).text ≡ told_line form x
step_line form c (Ok x) = refl
step_line form c (Err f) = refl

-- ---- lines that are written one after the other

pub told_append : (form : OutputForm) (a b : List Told) → told_text form (a ++ b) ≡ told_text form a ++ told_text form b
told_append form [] b = refl
told_append form (x ∷ a) b = ap (λ (l : List ℕ). told_line form x ++ l) (told_append form a b) ∙ sym (append_assoc (told_line form x) (told_text form a) (told_text form b))

pub count_append : (a b : List Told) → told_count (a ++ b) ≡ told_count a + told_count b
count_append [] b = omega arith
count_append (Ok x ∷ a) b = let rest = count_append a b in omega (arith, rest)
count_append (Err f ∷ a) b = count_append a b

told_next : (told : List Told) (i : ℕ) (x : Told) → i < length told → x ≡ get_or told i x → take (i + 1) told ≡ take i told ++ x ∷ []
told_next told i x within is = take_more told i x within ∙ ap (λ (y : Told). take i told ++ y ∷ []) (sym is)

pub told_more : (form : OutputForm) (told : List Told) (i : ℕ) (x : Told) (a b c : Option (List ℕ)) → i < length told → x ≡ get_or told i x → Appends a b (told_text form (take i told)) → Appends b c (told_line form x)
    → Appends a c (told_text form (take (i + 1) told))
told_more form told i x a b c within is first second =
    let all : told_text form (take (i + 1) told) ≡ told_text form (take i told) ++ told_line form x =
    ap (told_text form) (told_next told i x within is) ∙ told_append form (take i told) (x ∷ []) ∙ ap (λ (l : List ℕ). told_text form (take i told) ++ l) (append-nil (told_line form x)) in
    subst (λ (l : List ℕ). Appends a c l) (sym all) (appends-more a b c (told_text form (take i told)) (told_line form x) first second)

pub count_more : (told : List Told) (i : ℕ) (x : Told) → i < length told → x ≡ get_or told i x → told_count (take (i + 1) told) ≡ told_count (take i told) + told_count (x ∷ [])
count_more told i x within is = ap told_count (told_next told i x within is) ∙ count_append (take i told) (x ∷ [])

pub refusals_more : (at : ℕ) (a b : List Told) → told_refusals at (a ++ b) ≡ told_refusals at a ++ told_refusals (at + length a) b
refusals_more at [] b = ap (λ (n : ℕ). told_refusals n b) (sym (add-zero at))
refusals_more at (Ok x ∷ a) b = let sum : at + 1 + length a ≡ at + suc (length a) = omega arith in refusals_more (at + 1) a b ∙ ap (λ (n : ℕ). told_refusals (at + 1) a ++ told_refusals n b) sum
refusals_more at (Err f ∷ a) b =
    let sum : at + 1 + length a ≡ at + suc (length a) = omega arith in
    ap (λ (l : List RefusedRecord). record { at = at; fault = fault_of_machine f } ∷ l) (refusals_more (at + 1) a b ∙ ap (λ (n : ℕ). told_refusals (at + 1) a ++ told_refusals n b) sum)

pub or_assoc : (a b c : Option RefusedRecord) → option_or (option_or a b) c ≡ option_or a (option_or b c)
or_assoc None b c = refl
or_assoc (Some x) b c = refl

-- a report of one told command more
pub added_more : (from : ℕ) (told : List Told) (i : ℕ) (x : Told) (old mid new : Report) → i < length told → x ≡ get_or told i x → IsAdded old (told_count (take i told)) (told_refusals (from + 1) (take i told)) mid
    → IsAdded mid (told_count (x ∷ [])) (told_refusals (from + i + 1) (x ∷ [])) new → IsAdded old (told_count (take (i + 1) told)) (told_refusals (from + 1) (take (i + 1) told)) new
added_more from told i x old mid new within is first second =
    let front : List Told = take i told in
    let sum = count_more told i x within is in
    let long : length front ≡ i = length-take-le i told (omega (arith, within)) in
    let at : from + 1 + length front ≡ from + i + 1 = omega (arith, long) in
    let all : told_refusals (from + 1) (take (i + 1) told) ≡ told_refusals (from + 1) front ++ told_refusals (from + i + 1) (x ∷ []) =
    ap (told_refusals (from + 1)) (told_next told i x within is) ∙ refusals_more (from + 1) front (x ∷ []) ∙ ap (λ (n : ℕ). told_refusals (from + 1) front ++ told_refusals n (x ∷ [])) at in
    let more : length (told_refusals (from + 1) (take (i + 1) told)) ≡ length (told_refusals (from + 1) front) + length (told_refusals (from + i + 1) (x ∷ [])) =
    ap length all ∙ length-append (told_refusals (from + 1) front) (told_refusals (from + i + 1) (x ∷ [])) in
    let a = first.accepted in
    let b = second.accepted in
    let p = first.refused in
    let q = second.refused in
    record {
      accepted = omega (arith, sum, a, b);
      refused = omega (arith, more, p, q);
      first = second.first ∙ ap (λ o. option_or o (first_of (told_refusals (from + i + 1) (x ∷ [])))) first.first ∙ or_assoc old.first (first_of (told_refusals (from + 1) front)) (first_of (told_refusals (from + i + 1) (x ∷ [])))
          ∙ ap (option_or old.first) (sym (first_append (told_refusals (from + 1) front) (told_refusals (from + i + 1) (x ∷ []))) ∙ ap first_of (sym all));
    }

no_first : (o : Option RefusedRecord) → option_or o None ≡ o
no_first None = refl
no_first (Some x) = refl

-- a report of one command that was accepted, or refused
pub one_accepted : {y : ℕ × Reply} (at : ℕ) (x : Told) (old new : Report) → x ≡ Ok y → new.accepted ≡ old.accepted + 1 → new.refused ≡ old.refused → new.first ≡ old.first
    → IsAdded old (told_count (x ∷ [])) (told_refusals at (x ∷ [])) new
one_accepted {y} at x old new is accepted refused first = subst (λ (z : Told). IsAdded old (told_count (z ∷ [])) (told_refusals at (z ∷ [])) new) (sym is) (record {
  accepted = accepted;
  refused = refused ∙ sym (add-zero old.refused);
  first = first ∙ sym (no_first old.first);
})

pub one_refused : {f : MachineFault} (at : ℕ) (x : Told) (old new : Report) → x ≡ Err f → IsAdded old 0 (noted at (Some (fault_of_machine f))) new → IsAdded old (told_count (x ∷ [])) (told_refusals at (x ∷ [])) new
one_refused at x old new is h = subst (λ (z : Told). IsAdded old (told_count (z ∷ [])) (told_refusals at (z ∷ [])) new) (sym is) h

pub refusals_small : (at : ℕ) (told : List Told) → length (told_refusals at told) ≤ length told
refusals_small at [] = omega arith
refusals_small at (Ok x ∷ told) = let rest = refusals_small (at + 1) told in omega (arith, rest)
refusals_small at (Err f ∷ told) = let rest = refusals_small (at + 1) told in omega (arith, rest)

pub told_fail : (form : OutputForm) (told : List Told) (i : ℕ) (x : Told) (a b c : Option (List ℕ)) (f : Fault) → i < length told → x ≡ get_or told i x → Appends a b (told_text form (take i told)) → LineFails (told_line form x) b c f
    → ToldFail form told a c f
told_fail form told i x a b c f within is first fails = record {
  printed = take i told;
  next = x;
  rest = drop (i + 1) told;
  split = sym (take-append-drop (i + 1) told) ∙ ap (λ (l : List Told). l ++ drop (i + 1) told) (told_next told i x within is) ∙ append_assoc (take i told) (x ∷ []) (drop (i + 1) told);
  behind = b;
  written = first;
  fails = fails;
}

-- ---- which records join

avoid_append : (x : ℕ) (H : List (Command AnyJob)) (c : Command AnyJob) → Avoid x H → touches x c ≡ false → Avoid x (H ++ c ∷ [])
avoid_append x [] c h one = (one, tt)
avoid_append x (d ∷ H) c (first, more) one = (first, avoid_append x H c more one)

pub avoid_more : (x : ℕ) (H : List (Command AnyJob)) (i : ℕ) (c : Command AnyJob) → i < length H → c ≡ get_or H i c → Avoid x (take i H) → touches x c ≡ false → Avoid x (take (i + 1) H)
avoid_more x H i c within is h one =
    subst (Avoid x) (sym (take_more H i c within ∙ ap (λ (d : Command AnyJob). take i H ++ d ∷ []) (sym is))) (avoid_append x (take i H) c h one)

pub changes_append : (H : List (Command AnyJob)) (c : Command AnyJob) → AreChanges H → IsChange c → AreChanges (H ++ c ∷ [])
changes_append [] c h one = (one, tt)
changes_append (d ∷ H) c (first, more) one = (first, changes_append H c more one)

-- a task has in a state what it has in another, and its weight is in force since the same slot
record Alike (s t : Plain AnyJob) (x : ℕ) : Type 0 where
  place : slice_get t.jobs x ≡ slice_get s.jobs x
  from : t.from ≡ s.from
  allocs : granted t x ≡ granted s x

alike_next : (s t : Plain AnyJob) (x : ℕ) (job : AnyJob) → Alike s t x → is_next t x job ≡ is_next s x job
alike_next s t x job h =
    ap (λ (o : Option (Option AnyJob)). is_taken unit_of t.from o (granted t x) (unit_of job)) h.place
    ∙ ap (λ (n : ℕ). is_taken unit_of n (slice_get s.jobs x) (granted t x) (unit_of job)) h.from
    ∙ ap (λ (n : ℕ). is_taken unit_of s.from (slice_get s.jobs x) n (unit_of job)) h.allocs

alike_counted : (s t : Plain AnyJob) (x : ℕ) (job : AnyJob) → Alike s t x → counted t x job ≡ counted s x job
alike_counted s t x job h =
    ap (λ (o : Option (Option AnyJob)). counted_at o t.from job) h.place ∙ ap (λ (n : ℕ). counted_at (slice_get s.jobs x) n job) h.from

alike_by : (s : Plain AnyJob) (x : ℕ) (h : Happening AnyJob) → ((o : Option AnyJob) → job_step any_kind x h o ≡ o) → slice_get (state_step any_kind s h).jobs x ≡ slice_get s.jobs x
alike_by s x h stays = get_step any_kind h 0 x x s.jobs (omega arith) ∙ same (slice_get s.jobs x)
  where
    same : (place : Option (Option AnyJob)) → option_map (job_step any_kind x h) place ≡ place
    same None = refl
    same (Some o) = ap Some (stays o)

-- a command of another task
alike_step : (s : Plain AnyJob) (x : ℕ) (c : Command AnyJob) → touches x c ≡ false → Alike s (state_step any_kind s (happening_in s c)) x
alike_step s x (Submit y other) apart = record { place = alike_by s x (given y other) (λ o. ap (λ (b : Bool). if b then Some other else o) apart); from = refl; allocs = refl }
alike_step s x (Withdraw y) apart = record { place = alike_by s x (taken y) (λ o. ap (λ (b : Bool). if b then None else o) apart); from = refl; allocs = refl }
alike_step s x Slot apart = absurd cc
alike_step s x (Reweigh workers weights) apart = absurd cc

one_outcome : (s : Plain AnyJob) (c : Command AnyJob) → outcome any_kind s (c ∷ []) ≡ state_step any_kind s (happening_in s c)
one_outcome s c = outcome-snoc any_kind any_laws s [] c ∙ ap (λ (t : Plain AnyJob). state_step any_kind t (happening_in t c)) (outcome-none any_kind s)

apart_alike : (s : Plain AnyJob) (x : ℕ) (H : List (Command AnyJob)) → Avoid x H → Alike s (outcome any_kind s H) x
apart_alike s x [] apart = subst (λ (t : Plain AnyJob). Alike s t x) (sym (outcome-none any_kind s)) (record { place = refl; from = refl; allocs = refl })
apart_alike s x (c ∷ H) (one, more) =
    let first : Alike s (outcome any_kind s (c ∷ [])) x = subst (λ (t : Plain AnyJob). Alike s t x) (sym (one_outcome s c)) (alike_step s x c one) in
    let rest = apart_alike (outcome any_kind s (c ∷ [])) x H more in
    subst (λ (t : Plain AnyJob). Alike s t x) (outcome-outcome any_kind any_laws s (c ∷ []) H)
    (record { place = rest.place ∙ first.place; from = rest.from ∙ first.from; allocs = rest.allocs ∙ first.allocs })

-- the commands of a group's steps are of its tasks
step_avoids : (x : ℕ) (r : Run) (c : Command AnyJob) (H : List (Command AnyJob)) → touches x c ≡ false → Avoid x H → Avoid x (with_command (command_step r c).command H)
step_avoids x r c H one more = room (nat_lt r.accepted 1048576)
  where
    by : (o : Result Reply MachineFault) → Avoid x (with_command (answered r c o).command H)
    by (Ok reply) = (one, more)
    by (Err f) = more

    room : (b : Bool) → Avoid x (with_command (if b then answered r c (answer any_kind r.state c) else refused r.form fault.SessionFull).command H)
    room true = by (answer any_kind r.state c)
    room false = more

group_avoids : (x : ℕ) (r : Run) (H : List (Command AnyJob)) → Avoid x H → Avoid x (commands_of (group_steps r H))
group_avoids x r [] apart = subst (λ (l : List Step). Avoid x (commands_of l)) (sym (group_none r)) tt
group_avoids x r (c ∷ H) (one, more) =
    let next : Run = moved r (commands_of (command_step r c ∷ [])) in
    subst (λ (l : List Step). Avoid x (commands_of l)) (sym (group_one r c H)) (step_avoids x r c (commands_of (group_steps next H)) one (group_avoids x next H more))

pub joins_submit : (s : Plain AnyJob) (group : List (Command AnyJob)) (x : ℕ) (kind : List ℕ) (goal : ℕ) (text : List ℕ) (job : AnyJob) (row : Fields) → Avoid x group → verb_of row ≡ Some (submit x kind goal text)
    → job_by (any_start kind goal text) ≡ Ok job → is_next s x (counted s x job) ≡ true → Joins s group (Submit x (counted s x job)) row
joins_submit s group x kind goal text job row apart means is next = (
  submit x kind goal text,
  means,
  λ form accepted.
      let r : Run = run_at form s accepted in
      let last : Run = behind_group r group in
      let alike : Alike s last.state x = apart_alike s x (commands_of (group_steps r group)) (group_avoids x r group apart) in
      let still : is_next last.state x (counted s x job) ≡ true = alike_next s last.state x (counted s x job) alike ∙ next in
      ap (λ (y : Step). y ∷ []) (given_step form last.state last.state last.accepted x (job_by (any_start kind goal text)) job (counted s x job) is refl (sym (alike_counted s last.state x job alike)) still),
)

pub joins_withdraw : (s : Plain AnyJob) (group : List (Command AnyJob)) (x : ℕ) (row : Fields) → verb_of row ≡ Some (withdraw x) → Joins s group (Withdraw x) row
joins_withdraw s group x row means = (withdraw x, means, λ form accepted. refl)

-- a job joins if the engine says so
pub joins_job : (faults : Plain AnyJob → Fault → Type 0) (s : Plain AnyJob) (most : ℕ) (group : List (Command AnyJob)) (x : ℕ) (kind : List ℕ) (goal : ℕ) (text : List ℕ) (job : AnyJob) (row : Fields) (j : Joining) → length group < most
    → Avoid x group → verb_of row ≡ Some (submit x kind goal text) → job_by (any_start kind goal text) ≡ Ok job → IsGiven faults s x job j → IsJoining faults s most group row j
joins_job faults s most group x kind goal text job row (joining.Joins c) few apart means is (same, next) =
    (few, subst IsChange (sym same) tt, subst (λ (d : Command AnyJob). Joins s group d row) (sym same) (joins_submit s group x kind goal text job row apart means is next))
joins_job faults s most group x kind goal text job row joining.Apart few apart means is made = tt
joins_job faults s most group x kind goal text job row (joining.Failed f) few apart means is made = made

pub joins_taken : (faults : Plain AnyJob → Fault → Type 0) (s : Plain AnyJob) (most : ℕ) (group : List (Command AnyJob)) (x : ℕ) (row : Fields) → length group < most → verb_of row ≡ Some (withdraw x)
    → IsJoining faults s most group row (joining.Joins (Withdraw x))
joins_taken faults s most group x row few means = (few, tt, joins_withdraw s group x row means)

-- ---- records that are gathered

all_left : (script : Records) (left : Option (List Fields)) → script.left ≡ left → IfSome left (λ all. (rest : List Fields) × (all ≡ [] ++ rest) × (script.left ≡ Some rest))
all_left script None is = tt
all_left script (Some all) is = (all, refl, is)

pub gathers_none : (s : Plain AnyJob) (script : Records) → Gathers s script script []
gathers_none s script = record {
  rows = [];
  long = refl;
  known = all_left script script.left refl;
  place = sym (add-zero script.place);
  course = λ form accepted rest.
      let r : Run = run_at form s accepted in
      ap (λ (t : Run). course_from (script.place + 1) t rest) (sym (behind_none r))
      ∙ ap (λ (l : List Step). after l (group_refusals (script.place + 1) l) (course_from (script.place + 1) (behind_group r []) rest)) (sym (group_none r));
}

pub gathers_more : (s : Plain AnyJob) (script mid next : Records) (group : List (Command AnyJob)) (c : Command AnyJob) (row : Fields) → Gathers s script mid group → Takes mid row next → Joins s group c row → Gathers s script next (group ++ c ∷ [])
gathers_more s script mid next group c row h (place, whole, took) (verb, means, is) =
    let was = h.place in
    let same = h.long in
    let long : length (group ++ c ∷ []) ≡ length group + 1 = length-append group (c ∷ []) in
    let rows : length (h.rows ++ row ∷ []) ≡ length h.rows + 1 = length-append h.rows (row ∷ []) in
    record {
      rows = h.rows ++ row ∷ [];
      long = omega (arith, same, long, rows);
      known = more script.left h.known;
      place = omega (arith, place, was, long);
      course = λ form accepted rest.
          let r : Run = run_at form s accepted in
          let last : Run = behind_group r group in
          let y : Step = command_step last c in
          let x : List Step = y ∷ [] in
          let front : List Step = group_steps r group in
          let p : List RefusedRecord = group_refusals (script.place + 1) front in
          let at : script.place + 1 + length front ≡ mid.place + 1 = (let each = group_long r group in omega (arith, was, each)) in
          let q : noted (mid.place + 1) (refusal_of x) ≡ group_refusals (script.place + 1 + length front) x = sym (one_refusal (mid.place + 1) y) ∙ ap (λ (n : ℕ). group_refusals n x) (sym at) in
          let all : p ++ group_refusals (script.place + 1 + length front) x ≡ group_refusals (script.place + 1) (front ++ x) = sym (refusals_append (script.place + 1) front x) in
          ap (course_from (script.place + 1) r) (append_assoc h.rows (row ∷ []) rest) ∙ h.course form accepted (row ∷ rest)
          ∙ ap (after front p) (from_verb (mid.place + 1) last row rest verb (sym means)
          ∙ ap (λ (l : List Step). after l (noted (mid.place + 1) (refusal_of l)) (course_from (mid.place + 1 + 1) (moved last (commands_of l)) rest)) (is form accepted)
          ∙ ap (λ (n : ℕ). after x (noted (mid.place + 1) (refusal_of x)) (course_from (n + 1) (moved last (commands_of x)) rest)) (sym place))
          ∙ after_after front x p (noted (mid.place + 1) (refusal_of x)) (course_from (next.place + 1) (moved last (commands_of x)) rest)
          ∙ ap (λ (l : List RefusedRecord). after (front ++ x) (p ++ l) (course_from (next.place + 1) (moved last (commands_of x)) rest)) q
          ∙ ap (λ (l : List RefusedRecord). after (front ++ x) l (course_from (next.place + 1) (moved last (commands_of x)) rest)) all
          ∙ ap (λ (l : List Step). after l (group_refusals (script.place + 1) l) (course_from (next.place + 1) (moved last (commands_of x)) rest)) (sym (group_snoc r group c))
          ∙ ap (λ (t : Run). after (group_steps r (group ++ c ∷ [])) (group_refusals (script.place + 1) (group_steps r (group ++ c ∷ []))) (course_from (next.place + 1) t rest)) (sym (behind_snoc r group c));
    }
  where
    more : (left : Option (List Fields)) → IfSome left (λ all. (rest : List Fields) × (all ≡ h.rows ++ rest) × (mid.left ≡ Some rest))
        → IfSome left (λ all. (rest : List Fields) × (all ≡ (h.rows ++ row ∷ []) ++ rest) × (next.left ≡ Some rest))
    more None k = tt
    more (Some all) (rest, split, left) =
        let (others, rows, ended) = rw left at took in
        (others, split ∙ ap (λ (l : List Fields). h.rows ++ l) rows ∙ sym (append_assoc h.rows (row ∷ []) others), ended)

-- ---- a call that carries them out

module _ {E : Type 0} (P : Promise AnyJob E) (form : OutputForm) (L : Laws P) where
  -- steps that are carried out, of which a line wasn't written
  steps_unwritten : {most : ℕ} (steps printed rest : List Step) (x : Step) (a b : E) (u v w : Option (List ℕ)) (f : Fault) → steps ≡ printed ++ x ∷ rest → length steps ≤ most → P.state b ≡ outcome any_kind (P.state a) (commands_of steps)
      → P.keeps a (commands_of steps) (length (commands_of steps)) b → Appends u v (text_of printed) → LineFails x.text v w f → Stopped P most ⊥ steps a b u w f
  steps_unwritten {most} steps printed rest x a b u v w f split few state keeps written fails =
      let tail : List Step = x ∷ rest in
      let all : commands_of steps ≡ commands_of printed ++ commands_of tail = ap commands_of split ∙ commands_append printed tail in
      let long : length (commands_of steps) ≡ length (commands_of printed) + length (commands_of tail) = ap length all ∙ length-append (commands_of printed) (commands_of tail) in
      let parts : length steps ≡ length printed + length tail = ap length split ∙ length-append printed tail in
      record {
        printed = printed;
        tried = tail;
        rest = [];
        split = split ∙ ap (λ (l : List Step). printed ++ l) (sym (append-nil tail));
        few = omega (arith, few, parts);
        why = because f fails (state ∙ ap (outcome any_kind (P.state a)) all ∙ sym (outcome-outcome any_kind any_laws (P.state a) (commands_of printed) (commands_of tail)));
        keeps = subst (λ (H : List (Command AnyJob)). P.keeps a H (length (commands_of printed)) b) all
            (L.fewer a b (commands_of steps) (length (commands_of steps)) (length (commands_of printed)) (omega (arith, long)) keeps);
      }
    where
      because : (g : Fault) → LineFails x.text v w g → P.state b ≡ outcome any_kind (outcome any_kind (P.state a) (commands_of printed)) (commands_of (x ∷ rest))
          → Halts ⊥ P.faults (outcome any_kind (P.state a) (commands_of printed)) (text_of printed) (x ∷ rest) (P.state b) u w g
      because fault.OutputFailed (front, back, part, more) is = (is, front, back, part, appends-more u v w (text_of printed) front written more)
      because fault.NoMemory kept is = (inr is, appends-kept u v w (text_of printed) written kept)
      because other h is = absurd h

  pub group_done : (H : List (Command AnyJob)) (told : List Told) (accepted : ℕ) (a b : E) (u v : Option (List ℕ)) → AreAllDone any_kind P H told a b → accepted + length H ≤ 1048576 → Appends u v (told_text form told)
      → Carried P (group_steps (run_of P form a accepted) H) a b u v
  group_done H told accepted a b u v h few written =
      let is : group_steps (run_of P form a accepted) H ≡ told_steps form H told = told_group (run_of P form a accepted) H told h.answered few in
      let all : accepted_of H told ≡ commands_of (told_steps form H told) = sym (told_commands form H told) in
      subst (λ (l : List Step). Carried P l a b u v) (sym is) (record {
        text = subst (λ (t : List ℕ). Appends u v t) (sym (told_lines form (P.state a) H told h.answered)) written;
        state = h.state ∙ ap (outcome any_kind (P.state a)) all;
        settled = λ was. h.settled;
        keeps = subst (λ (G : List (Command AnyJob)). P.keeps a G (length G) b) all h.keeps;
      })

  pub group_counts : (H : List (Command AnyJob)) (told : List Told) (accepted : ℕ) (a b : E) → AreAllDone any_kind P H told a b → accepted + length H ≤ 1048576
      → told_count told ≡ length (commands_of (group_steps (run_of P form a accepted) H))
  group_counts H told accepted a b h few =
      told_counts (P.state a) H told h.answered ∙ ap length (sym (told_commands form H told)) ∙ ap (λ (l : List Step). length (commands_of l)) (sym (told_group (run_of P form a accepted) H told h.answered few))

  pub group_added : (H : List (Command AnyJob)) (told : List Told) (before later : Report) (at : ℕ) (a b : E) → AreAllDone any_kind P H told a b → before.accepted + length H ≤ 1048576 → IsAdded before (told_count told) (told_refusals at told) later
      → IsAdded before (length (commands_of (group_steps (run_of P form a before.accepted) H))) (group_refusals at (group_steps (run_of P form a before.accepted) H)) later
  group_added H told before later at a b h few added =
      let is : group_steps (run_of P form a before.accepted) H ≡ told_steps form H told = told_group (run_of P form a before.accepted) H told h.answered few in
      let refusals : told_refusals at told ≡ group_refusals at (group_steps (run_of P form a before.accepted) H) = sym (ap (group_refusals at) is ∙ told_refused form (P.state a) at H told h.answered) in
      subst (λ (n : ℕ). IsAdded before n (group_refusals at (group_steps (run_of P form a before.accepted) H)) later) (group_counts H told before.accepted a b h few)
      (subst (λ (l : List RefusedRecord). IsAdded before (told_count told) l later) refusals added)

  pub group_unwritten : (H : List (Command AnyJob)) (told : List Told) (accepted : ℕ) (a b : E) (u v : Option (List ℕ)) (f : Fault) → AreAllDone any_kind P H told a b → accepted + length H ≤ 1048576 → ToldFail form told u v f
      → Stopped P (length H) ⊥ (group_steps (run_of P form a accepted) H) a b u v f
  group_unwritten H told accepted a b u v f h few fails =
      let is : group_steps (run_of P form a accepted) H ≡ told_steps form H told = told_group (run_of P form a accepted) H told h.answered few in
      let all : accepted_of H told ≡ commands_of (told_steps form H told) = sym (told_commands form H told) in
      let (printed, c, rest, split, text) = told_split form (P.state a) H fails.printed fails.next fails.rest (subst (AreTold any_kind (P.state a) H) fails.split h.answered) in
      let long = told_long form (P.state a) H told h.answered in
      subst (λ (l : List Step). Stopped P (length H) ⊥ l a b u v f) (sym is)
      (steps_unwritten (told_steps form H told) printed rest (told_step form c fails.next) a b u fails.behind v f (ap (told_steps form H) fails.split ∙ split) (omega (arith, long)) (h.state ∙ ap (outcome any_kind (P.state a)) all)
      (subst (λ (G : List (Command AnyJob)). P.keeps a G (length G) b) all h.keeps) (subst (λ (t : List ℕ). Appends u fails.behind t) (sym text) fails.written)
      (subst (λ (t : List ℕ). LineFails t fails.behind v f) (sym (step_line form c fails.next)) fails.fails))

  pub group_left : (H : List (Command AnyJob)) (accepted : ℕ) (a b : E) (u : Option (List ℕ)) (f : Fault) → AreAllLeft any_kind P H a b → accepted + length H ≤ 1048576 → IsEngineFault P.faults (P.state a) f
      → Stopped P (length H) ⊥ (group_steps (run_of P form a accepted) H) a b u u f
  group_left H accepted a b u f h few why =
      let r : Run = run_of P form a accepted in
      let sum : length H ≡ length h.took + length h.rest = ap length h.split ∙ length-append h.took h.rest in
      let is : group_steps r h.took ≡ told_steps form h.took h.said = told_group r h.took h.said h.answered (omega (arith, few, sum)) in
      let all : accepted_of h.took h.said ≡ commands_of (told_steps form h.took h.said) = sym (told_commands form h.took h.said) in
      let long = told_long form (P.state a) h.took h.said h.answered in
      slots_failed P form L (group_steps r H) (told_steps form h.took h.said) (group_steps (behind_group r h.took) h.rest) (length H) a b u f
      (ap (group_steps r) h.split ∙ group_append r h.took h.rest ∙ ap (λ (l : List Step). l ++ group_steps (behind_group r h.took) h.rest) is) (omega (arith, sum, long)) why
      (subst (λ (G : List (Command AnyJob)). (P.state b ≡ P.state a) ⊎ (P.state b ≡ outcome any_kind (P.state a) G)) all h.state)
      (subst (λ (G : List (Command AnyJob)). P.keeps a G 0 b) all h.keeps)

  -- none at all
  pub group_empty : (H : List (Command AnyJob)) (accepted : ℕ) (e : E) (w : Option (List ℕ)) → length H ≡ 0 → Carried P (group_steps (run_of P form e accepted) H) e e w w
  group_empty [] accepted e w none = subst (λ (l : List Step). Carried P l e e w w) (sym (group_none (run_of P form e accepted))) (carried_none P L e w)
  group_empty (c ∷ H) accepted e w none = absurd (let no : suc (length H) ≡ 0 = none in omega (arith, no))

pub empty_added : (r : Run) (at : ℕ) (H : List (Command AnyJob)) (report : Report) → length H ≡ 0 → IsAdded report (length (commands_of (group_steps r H))) (group_refusals at (group_steps r H)) report
empty_added r at [] report none = subst (λ (l : List Step). IsAdded report (length (commands_of l)) (group_refusals at l) report) (sym (group_none r)) (record {
  accepted = sym (add-zero report.accepted);
  refused = sym (add-zero report.refused);
  first = sym (no_first report.first);
})
empty_added r at (c ∷ H) report none = absurd (let no : suc (length H) ≡ 0 = none in omega (arith, no))

-- no more of them are accepted than there are
pub count_small : (told : List Told) → told_count told ≤ length told
count_small [] = omega arith
count_small (Ok x ∷ told) = let rest = count_small told in omega (arith, rest)
count_small (Err f ∷ told) = let rest = count_small told in omega (arith, rest)

-- the next command of a list that is gone over
pub within : {A : Type 0} (all gone : List A) (x : A) (rest left : List A) → all ≡ gone ++ rest → rest ≡ x ∷ left → length gone < length all
within all gone x rest left split step =
    let long : length all ≡ length gone + length rest = ap length split ∙ length-append gone rest in
    let some : length rest ≡ suc (length left) = ap length step in
    omega (arith, long, some)

-- all of them were gone over
pub over : {A : Type 0} (all gone rest : List A) → all ≡ gone ++ rest → rest ≡ [] → gone ≡ all
over {A} all gone rest split none = sym (split ∙ ap (λ (l : List A). gone ++ l) none ∙ append-nil gone)

-- a call that did nothing
pub nothing_done : {E : Type 0} (P : Promise AnyJob E) (H : List (Command AnyJob)) (a b : E) → IsSame P a b → AreAllLeft any_kind P H a b
nothing_done P H a b same = record {
  took = [];
  rest = H;
  split = refl;
  said = [];
  answered = tt;
  state = inl same.state;
  keeps = same.keeps;
}
