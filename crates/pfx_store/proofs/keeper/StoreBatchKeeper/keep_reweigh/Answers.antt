use Rattle.pfx_store.proofs.Keeping.{went_well, failed}
use Rattle.pfx_store.proofs.keeper.StoreBatchKeeper.keep_reweigh.Goals as goal

pub returns-in-Ok : goal.returns-in-Ok
returns-in-Ok g c =
    let e = c.in-Ok.ensures in
    record {
      call = went_well g.D.Disk.view _ _ _ c.in-Ok.mark e.call;
      state = record { moved = e.state.moved; same = tt };
      place = e.place;
      mark = e.mark;
      marks = λ honest start all marks covers. e.marks honest start all marks covers;
      commits = λ honest. let k = e.commits honest in record { keeps = k.keeps; acknowledged = k.acknowledged };
    }

-- a call that failed keeps the marks that it had
pub returns-in-Err : goal.returns-in-Err
returns-in-Err g c =
    let e = c.in-Err.ensures in
    record {
      call = failed g.D.Disk.view _ _ _ c.in-Err.field-0 e.call;
      state = record { moved = tt; same = e.state.same };
      place = tt;
      mark = tt;
      marks = λ honest start all marks covers. (e.marks honest start all marks covers).marks;
      commits = λ honest. let k = e.commits honest in record { keeps = k.keeps; acknowledged = λ start all leads. tt };
    }
