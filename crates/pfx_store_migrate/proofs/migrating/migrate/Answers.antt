use Rattle.std.proofs.Common.{◌≡◌, ◌∙◌, ap, sym, subst, refl, Ok}
use Rattle.pfx_store_create.specs.Attempts.{IsNoneOrMade}
use Rattle.pfx_store_format.specs.Format.{format}
use Rattle.pfx_machine.specs.Plain.{Plain}
use Rattle.pfx_store_image.specs.Recovery.{recovered}
use Rattle.pfx_store.specs.Working.{IsBegun}
use Rattle.pfx_store_version_one.specs.Format.{format_1}
use Rattle.pfx_store_migrate.proofs.Migrations.{found_recovered, one_state, unasked}
use Rattle.pfx_store_migrate.proofs.migrating.migrate.Goals as goal

pub returns-in-Err-clause-recovers : goal.returns-in-Err-clause-recovers
returns-in-Err-clause-recovers g c = λ old_honest new_honest s is. unasked g.J.Job.kind s (g.E.Disk.view c.args.new) (g.E.Disk.view c.args.new) refl

pub returns-in-Ok-begin-clause-state : goal.returns-in-Ok-begin-clause-state
returns-in-Ok-begin-clause-state g c = λ honest.
    (let K = g.J.Job.kind in
    let bytes = (g.D.Disk.view c.args.old).contents in
    let read = c.in-Ok.opened in
    let opened = c.in-Ok.ensures.opened honest in
    let made = c.in-Ok-begin.ensures.made in
    let is : recovered (format_1 K) bytes ≡ Ok read.state = found_recovered K read.header bytes opened.parts read.state opened.found in
    (is ∙ ap Ok (sym made.state), subst (λ (s : Plain _). IsBegun s c.in-Ok-begin.store) (sym made.state) made))

pub returns-in-Ok-begin-clause-recovers : goal.returns-in-Ok-begin-clause-recovers
returns-in-Ok-begin-clause-recovers g c = λ old_honest new_honest s is.
    (let K = g.J.Job.kind in
    let V = g.E.Disk.view in
    let bytes = (g.D.Disk.view c.args.old).contents in
    let read = c.in-Ok.opened in
    let opened = c.in-Ok.ensures.opened old_honest in
    let same = one_state (recovered (format_1 K) bytes) read.state s (found_recovered K read.header bytes opened.parts read.state opened.found) is in
    subst (λ (t : Plain _). IsNoneOrMade (format K) t (V c.args.new) (V c.in-Ok-begin.store.file.disk)) same (c.in-Ok-begin.ensures.recovers new_honest))

pub returns-clause-recovers : goal.returns-clause-recovers
returns-clause-recovers g c = λ old_honest new_honest s is.
    (let K = g.J.Job.kind in
    let V = g.E.Disk.view in
    let bytes = (g.D.Disk.view c.args.old).contents in
    let read = c.in-Ok.opened in
    let opened = c.in-Ok.ensures.opened old_honest in
    let same = one_state (recovered (format_1 K) bytes) read.state s (found_recovered K read.header bytes opened.parts read.state opened.found) is in
    subst (λ (t : Plain _). IsNoneOrMade (format K) t (V c.args.new) (V c.in-Err-begin.new)) same (c.in-Err-begin.ensures.recovers new_honest))
