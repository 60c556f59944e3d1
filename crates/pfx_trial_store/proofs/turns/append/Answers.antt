use Rattle.std.proofs.Common.{rules, ◌≡◌, ◌∙◌, true, refl, sym, subst}
use Rattle.std.specs.Prelude.{All, IsTrue}
use Rattle.pfx_record.specs.Records.{plain}
use Rattle.pfx_record_redo.specs.Applying.{is_common}
use Rattle.pfx_record_redo.proofs.Commons.{unmapped}
use Rattle.pfx_trial_store.proofs.Slots.{none_new}
use Rattle.pfx_trial_store.proofs.turns.append.Goals as goal

pub new-batch-requires : goal.new-batch-requires
new-batch-requires g c =
    let well : c.fits.result ≡ true = search rules in
    rw (sym c.deref.ensures.value) (sym c.fits.ensures ∙ well)

-- the batch says of no task that it is real, so none of its records has new weights
pub apply_all-requires : goal.apply_all-requires
apply_all-requires g c =
    let batch = c.new-batch.result in
    let common = unmapped batch.records.items (none_new batch.workers batch.real batch.first batch.records.items batch.fits c.new-batch.ensures.real) in
    record { common = subst (λ l. All (λ entry. IsTrue (is_common (plain entry))) l) (sym c.deref-2.ensures.value) common }

pub append-requires : goal.append-requires
append-requires g c =
    let taken = c.if-apply_all.ensures.taken refl in
    record {
      next = record {
        workers = search rules;
        real = search rules;
        first = search rules;
        right = (c.apply_all.new.state, rw (sym c.state.ensures) (rw (sym c.in-Ok.ensures) (rw (sym c.deref-2.ensures.value) taken)));
      };
    }
