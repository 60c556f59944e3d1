use Rattle.std.proofs.Common.{ℕ, List, ap, refl, sym, subst}
use Rattle.pfx_store_format.specs.Format.{format}
use Rattle.pfx_store_format.proofs.Keeping.{format_laws}
use Rattle.pfx_store.specs.Standing.{Stands}
use Rattle.pfx_store.proofs.Standings.{on_ok_then, stands_tended}
use Rattle.pfx_store_file.specs.Acts.{tended_file}
use Rattle.pfx_store.specs.Files.{HasFile}
use Rattle.pfx_store.proofs.Filing.{tend_made, tend_broken, tend_within, tend_file}
use Rattle.pfx_store.proofs.journal.Journal.tend.Goals as goal

pub returns-clause-stands : goal.returns-clause-stands
returns-clause-stands g c =
    let K = g.J.Job.kind in
    let s = c.args.self.now.state in
    record {
      state = refl;
      goes_on = λ stands.
          let same : Stands K c.args.self.now.file.places s c.deref.result.now (g.D.Disk.view c.args.self.now.file.disk) = subst (λ (l : List ℕ). Stands K c.args.self.now.file.places s l (g.D.Disk.view c.args.self.now.file.disk)) (sym c.deref.ensures.value) stands in
          on_ok_then c.tend.result (stands_tended K same.header c.tend.new.self.places same.parts s c.deref.result.now c.args.self.now.spelled.items (g.D.Disk.view c.tend.new.self.disk) c.deref.ensures.value same.of same.middle)
          ((c.tend.ensures.keeps (format K) (format_laws K g.met.J.Job.laws) same.header same.parts s same.holds same.middle).holds);
      keeps = λ stands start all replays.
          let same : Stands K c.args.self.now.file.places s c.deref.result.now (g.D.Disk.view c.args.self.now.file.disk) = subst (λ (l : List ℕ). Stands K c.args.self.now.file.places s l (g.D.Disk.view c.args.self.now.file.disk)) (sym c.deref.ensures.value) stands in
          (c.tend.ensures.keeps (format K) (format_laws K g.met.J.Job.laws) same.header same.parts s same.holds same.middle).keeps start all replays;
    }

pub returns-clause-acts : goal.returns-clause-acts
returns-clause-acts g c =
    let K = g.J.Job.kind in
    let V = g.D.Disk.view in
    let old = c.args.self.now in
    let body = c.deref.result.now in
    let a = V old.file.disk in
    let b = V c.tend.new.self.disk in
    let after = c.tend.new.self.places in
    record {
      made = λ f has honest.
          let same : HasFile K f old.file.places body = subst (λ (l : List ℕ). HasFile K f old.file.places l) (sym c.deref.ensures.value) has in
          on_ok_then c.tend.result (tend_made K f old.file.places body same a b) ((c.tend.ensures.acts (format K) f same.are honest).made);
      broken_off = λ f has honest is.
          let same : HasFile K f old.file.places body = subst (λ (l : List ℕ). HasFile K f old.file.places l) (sym c.deref.ensures.value) has in
          tend_broken K f old.file.places body same a b ((c.tend.ensures.acts (format K) f same.are honest).broken_off is);
      between = λ f has honest.
          let same : HasFile K f old.file.places body = subst (λ (l : List ℕ). HasFile K f old.file.places l) (sym c.deref.ensures.value) has in
          tend_within K f old.file.places body same a b ((c.tend.ensures.acts (format K) f same.are honest).between);
      file = λ f has honest.
          let same : HasFile K f old.file.places body = subst (λ (l : List ℕ). HasFile K f old.file.places l) (sym c.deref.ensures.value) has in
          on_ok_then c.tend.result (λ are. subst (λ (l : List ℕ). HasFile K (tended_file (format K) f) after l) c.deref.ensures.value (tend_file K f old.file.places body same after are)) (c.tend.ensures.file (format K) f same.are);
    }

pub returns-clause-call : goal.returns-clause-call
returns-clause-call g c =
    let j = c.args.self.now in
    record {
      works = c.tend.ensures.call.works;
      takes = c.tend.ensures.call.takes;
      honest = c.tend.ensures.call.honest;
      roomy = c.tend.ensures.call.roomy;
      broken = λ is. ap (λ i. record { file = record { disk = i.disk; places = i.places; broken = i.broken }; state = j.state; spelled = j.spelled.items }) (c.tend.ensures.call.broken is);
      parts = c.tend.ensures.call.parts;
    }

pub returns-clause-tends : goal.returns-clause-tends
returns-clause-tends g c = record {
  step = c.tend.ensures.tends.step;
  stays = c.tend.ensures.tends.stays;
  nothing = λ none. (ap (λ i. record { disk = i.disk; places = i.places; broken = i.broken }) (c.tend.ensures.tends.nothing none), refl);
  piece = c.tend.ensures.tends.piece;
  nearer = c.tend.ensures.tends.nearer;
  fewer = c.tend.ensures.tends.fewer;
}
