use Rattle.std.proofs.Common.{inr, refl}
use Rattle.pfx_fault.specs.declared.refusals.Fault.TheVariants.{NoMemory}
use Rattle.pfx_program_store.proofs.ServingLemmas.{unserved}
use Rattle.pfx_program_store.proofs.serving.run_served.Goals as goal

pub returns-in-Err : goal.returns-in-Err
returns-in-Err g c = unserved c.args.run.form c.args.run.at_refusal c.args.store.state (g.D.Disk.view c.args.store.file.disk) c.args.script.now c.args.script.now.failed (g.W.Write.contents c.args.output.now) NoMemory (inr refl) (λ honest image here. c.is_broken-broken.ensures.recovered c.requires.begins.whole honest image here)
