use Rattle.std.proofs.Common.{◌++◌, ◌∷◌, [], ◌+◌, ◌∙◌, ap, append-nil, rules}
use Rattle.pfx_record.specs.Numbers.{number_bytes}
use Rattle.pfx_store.proofs.appending.start_behind.Goals as goal

pub returns : goal.returns
unfolding number_bytes
returns c = record {
  long = search rules;
  number = search rules;
  closed = search rules;
  bytes = ap (λ l. l ++ 0 ∷ []) (c.write_u64.ensures ∙ append-nil (number_bytes 8 (c.args.number + 1)));
}
