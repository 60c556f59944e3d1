-- The first and the last byte of each kind's state.
use Rattle.std.specs.Prelude.{◌≡◌, ◌≢◌, ℕ, ◌++◌, replicate, slice_index, refl}
use Rattle.std.proofs.Common.{arith, sym, ◌∙◌}
use Rattle.std.proofs.lemmas.List.{get_or-append_right}
use Rattle.std.proofs.lemmas.Option.{none-some}
use Rattle.byteorder.specs.Endian.{little_bytes}
use Rattle.pfx_kinds.specs.Counts.{count_bytes}
use Rattle.pfx_kinds.specs.CountKind.{count_kind}
use Rattle.pfx_kinds.specs.Laws.{AnswersStandApart}
use Rattle.pfx_kinds.specs.Owns.{own_bytes, own_end}
use Rattle.pfx_kinds.specs.OwnBytes.{own_parts}
use Rattle.pfx_kinds.specs.OwnKind.{own_kind}
use Rattle.pfx_kinds.specs.RuleBytes.{rule_facts}
use Rattle.pfx_kinds.specs.Rules.{rule_bytes}
use Rattle.pfx_kinds.specs.RuleKind.{rule_kind}
use Rattle.pfx_kinds.specs.ScanBytes.{scan_lists}
use Rattle.pfx_kinds.specs.Scans.{scan_bytes, scan_lists_fit, scan_numbers_fit}
use Rattle.pfx_kinds.specs.Tests.{both-true}
use Rattle.pfx_kinds.specs.ScanKind.{scan_kind}
use Rattle.pfx_kinds.specs.declared.any.AnyJob.TheVariants.{Count, Rule, Scan, Own as own}
use Rattle.pfx_kinds.specs.declared.count.Count as count_type
use Rattle.pfx_kinds.specs.declared.own.Own as own_type
use Rattle.pfx_kinds.specs.declared.rule.Rule as rule_type
use Rattle.pfx_kinds.specs.declared.scan.Scan as scan_type

-- the last byte of each kind
count_last : (s : count_type.Count) → slice_index (count_kind.spelling s) 127 ≡ 0
unfolding count_bytes
count_last s = refl

rule_last : (s : rule_type.Rule) → slice_index (rule_kind.spelling s) 127 ≡ 0
unfolding rule_bytes
rule_last s = get_or-append_right s.cells (replicate 56 0) 64 119 0 ((rule_facts s.left s.width s.cells s.fits).long) (omega arith)

scan_last : (s : scan_type.Scan) → slice_index (scan_kind.spelling s) 127 ≡ 0
unfolding scan_bytes
scan_last s =
    let parts = both-true (scan_numbers_fit s.left s.text_length s.needle_length s.found) (scan_lists_fit s.text_length s.needle_length s.text s.needle) s.fits in
    let lists = scan_lists s.text_length s.needle_length s.text s.needle parts.1 in
    get_or-append_right s.text (s.needle ++ replicate 40 0) 64 119 0 lists.text_long (omega arith) ∙ get_or-append_right s.needle (replicate 40 0) 16 55 0 lists.needle_long (omega arith)

own_last : (s : own_type.Own) → slice_index (own_kind.spelling s) 127 ≡ 4
unfolding own_bytes
own_last s = get_or-append_right s.text (little_bytes 5 s.since ++ own_end) 106 113 0 ((own_parts s.answered s.since s.text_length s.text s.fits).long) (omega arith)

-- the first byte
count_first : (s : count_type.Count) → slice_index (count_kind.spelling s) 0 ≡ 1
unfolding count_bytes
count_first s = refl

rule_first : (s : rule_type.Rule) → slice_index (rule_kind.spelling s) 0 ≡ 2
unfolding rule_bytes
rule_first s = refl

scan_first : (s : scan_type.Scan) → slice_index (scan_kind.spelling s) 0 ≡ 3
unfolding scan_bytes
scan_first s = refl

own_first : (s : own_type.Own) → slice_index (own_kind.spelling s) 0 ≡ 4
unfolding own_bytes
own_first s = refl

differ : (a b x y : ℕ) → a ≡ x → b ≡ y → x ≢ y → a ≢ b
differ a b x y first second other is = other (sym first ∙ is ∙ second)

pub apart : AnswersStandApart
apart s (Count t) none = (differ _ _ 4 1 (own_first s) (count_first t) (λ h. absurd (omega (arith, h))), differ _ _ 4 0 (own_last s) (count_last t) (λ h. absurd (omega (arith, h))))
apart s (Rule t) none = (differ _ _ 4 2 (own_first s) (rule_first t) (λ h. absurd (omega (arith, h))), differ _ _ 4 0 (own_last s) (rule_last t) (λ h. absurd (omega (arith, h))))
apart s (Scan t) none = (differ _ _ 4 3 (own_first s) (scan_first t) (λ h. absurd (omega (arith, h))), differ _ _ 4 0 (own_last s) (scan_last t) (λ h. absurd (omega (arith, h))))
apart s (own t) none = absurd (none-some (record { since = t.since; number = t.answered }) (sym none))
