-- Rows that show the records of a script, and what they ask for.
use Rattle.std.proofs.Common.{◌≡◌, codes, refl, [], ◌∷◌, ◌++◌, Some, None, false}
use Rattle.std.specs.Char.{encode_utf8}
use Rattle.std.specs.Str.{is_utf8, chars}
use Rattle.csv.specs.Records.{field_at}
use Rattle.csv.proofs.OnLiterals.{csv_on_literals}
use Rattle.pfx_kinds_decimal.specs.Numerals.{number_in}
use Rattle.pfx_program_script.specs.Verbs.{submit, slot, withdraw, settle, status, show, reweigh, verb_of}
use Rattle.pfx_program_script.specs.Weights.{weight_in, weights_of_parts, weights_in, said_weights}
use Rattle.pfx_program_script.specs.Quoting.{plain, quoted, script_text}
use Rattle.pfx_program_script.specs.Records.{script_records}
use Rattle.pfx_program_script.specs.Whole.{after, whole, whole_of}

pub two_records : script_records (codes "settle,,,,\n\nslot,,\"\",3,\n") ≡ (codes "settle" ∷ [] ∷ [] ∷ [] ∷ [] ∷ []) ∷ (codes "slot" ∷ [] ∷ [] ∷ codes "3" ∷ [] ∷ []) ∷ []
unfolding csv_on_literals
two_records = refl

pub submits : verb_of (codes "submit" ∷ codes "07" ∷ codes "count" ∷ [] ∷ codes "10" ∷ []) ≡ Some (submit 7 (codes "count") 0 (codes "10"))
unfolding verb_of number_in field_at is_utf8 chars encode_utf8
submits = refl

pub runs_slots : verb_of (codes "slot" ∷ [] ∷ [] ∷ codes "1048576" ∷ [] ∷ []) ≡ Some (slot 1048576)
unfolding verb_of number_in field_at is_utf8 chars encode_utf8
runs_slots = refl

pub runs_a_slot : verb_of (codes "slot" ∷ [] ∷ [] ∷ [] ∷ [] ∷ []) ≡ Some (slot 1)
unfolding verb_of number_in field_at is_utf8 chars encode_utf8
runs_a_slot = refl

pub too_many_slots : verb_of (codes "slot" ∷ [] ∷ [] ∷ codes "1048577" ∷ [] ∷ []) ≡ None
unfolding verb_of number_in field_at is_utf8 chars encode_utf8
too_many_slots = refl

pub withdraws : verb_of (codes "withdraw" ∷ codes "65535" ∷ [] ∷ [] ∷ [] ∷ []) ≡ Some (withdraw 65535)
unfolding verb_of number_in field_at is_utf8 chars encode_utf8
withdraws = refl

pub no_such_number : verb_of (codes "withdraw" ∷ codes "65536" ∷ [] ∷ [] ∷ [] ∷ []) ≡ None
unfolding verb_of number_in field_at is_utf8 chars encode_utf8
no_such_number = refl

pub settles : verb_of (codes "settle" ∷ [] ∷ [] ∷ [] ∷ [] ∷ []) ≡ Some settle
unfolding verb_of number_in field_at is_utf8 chars encode_utf8
settles = refl

pub shows : verb_of (codes "status" ∷ [] ∷ [] ∷ [] ∷ [] ∷ []) ≡ Some status
unfolding verb_of number_in field_at is_utf8 chars encode_utf8
shows = refl

pub shows_all_jobs : verb_of (codes "show" ∷ [] ∷ [] ∷ [] ∷ [] ∷ []) ≡ Some (show None)
unfolding verb_of number_in field_at is_utf8 chars encode_utf8
shows_all_jobs = refl

pub shows_a_job : verb_of (codes "show" ∷ codes "00" ∷ [] ∷ [] ∷ [] ∷ []) ≡ Some (show (Some 0))
unfolding verb_of number_in field_at is_utf8 chars encode_utf8
shows_a_job = refl

pub shows_no_such_number : verb_of (codes "show" ∷ codes "65536" ∷ [] ∷ [] ∷ [] ∷ []) ≡ None
unfolding verb_of number_in field_at is_utf8 chars encode_utf8
shows_no_such_number = refl

pub reweighs : verb_of (codes "reweigh" ∷ [] ∷ [] ∷ codes "2" ∷ codes "1/3 1/03" ∷ []) ≡ Some (reweigh 2 (codes "1/3 1/03"))
unfolding verb_of number_in field_at is_utf8 chars encode_utf8 weight_in weights_of_parts
reweighs = refl

pub no_workers : verb_of (codes "reweigh" ∷ [] ∷ [] ∷ [] ∷ codes "1/3" ∷ []) ≡ None
unfolding verb_of number_in field_at is_utf8 chars encode_utf8 weight_in weights_of_parts
no_workers = refl

pub two_spaces : verb_of (codes "reweigh" ∷ [] ∷ [] ∷ codes "2" ∷ codes "1/3  1/3" ∷ []) ≡ None
unfolding verb_of number_in field_at is_utf8 chars encode_utf8 weight_in weights_of_parts
two_spaces = refl

pub four_fields : verb_of (codes "settle" ∷ [] ∷ [] ∷ [] ∷ []) ≡ None
unfolding verb_of number_in field_at is_utf8 chars encode_utf8
four_fields = refl

pub a_field_too_many : verb_of (codes "settle" ∷ codes "0" ∷ [] ∷ [] ∷ [] ∷ []) ≡ None
unfolding verb_of number_in field_at is_utf8 chars encode_utf8
a_field_too_many = refl

-- ---- weights

-- a number that is too great counts as 0
pub weights : weights_in (codes "1/3 4294967295/07 4294967296/3") ≡ Some ((1, 3) ∷ (4294967295, 7) ∷ (0, 3) ∷ [])
unfolding number_in weight_in weights_of_parts
weights = refl

pub no_weights : weights_in [] ≡ None
unfolding number_in weight_in weights_of_parts
no_weights = refl

pub ends_in_a_space : weights_in (codes "1/3 ") ≡ None
unfolding number_in weight_in weights_of_parts
ends_in_a_space = refl

pub eleven_digits : weights_in (codes "1/00000000003") ≡ None
unfolding number_in weight_in weights_of_parts
eleven_digits = refl

pub two_slashes : weights_in (codes "1/3/3") ≡ None
unfolding number_in weight_in weights_of_parts
two_slashes = refl

pub says_none : said_weights (codes "1") ≡ []
unfolding number_in weight_in weights_of_parts
says_none = refl

-- ---- what is whole

pub closed : whole_of (codes "\"b\",c\n") ≡ codes "\"b\",c\n"
unfolding whole after
closed = refl

pub open_quote : whole_of (codes "a,\"b\n") ≡ codes "a,\"b\n" ++ 255 ∷ []
unfolding whole after
open_quote = refl

pub text_behind_a_quote : whole_of (codes "\"b\"c\n") ≡ codes "\"b\"" ++ 255 ∷ []
unfolding whole after
text_behind_a_quote = refl

-- a record of two fields, as it is written
pub written : script_text false ((plain (codes "a") ∷ quoted (codes "b\"") ∷ []) ∷ []) [] ≡ codes "a,\"b\"\"\"\n"
written = refl
