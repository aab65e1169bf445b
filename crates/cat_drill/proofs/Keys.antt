-- The keys that elements make.
use Rattle.std.proofs.Common.{◌≡◌, Bool, true, false, cond, Result, Ok, Err, length, nat_lt, ◌==◌, ◌||◌}
use Rattle.std.specs.List.{list_any, list_all}
use Rattle.cat_names.specs.Fields.{Key, key_of, is_empty_part, has_no_control, is_path}
use Rattle.cat_names.specs.declared.key_fault.KeyFault.{KeyFault}
use Rattle.cat_names.specs.declared.key_fault.KeyFault.TheVariants.{Empty, TooMany, Control, TooLong}

by_tests : (empty many plain fits : Bool) (elements key : Key)
    → ◌≡◌ {A = Result Key KeyFault} (cond empty (Err Empty) (cond many (Err TooMany) (cond plain (cond fits (Ok elements) (Err TooLong)) (Err Control)))) (Ok key) → key ≡ elements
by_tests true many plain fits elements key e = cc
by_tests false true plain fits elements key e = cc
by_tests false false false fits elements key e = cc
by_tests false false true false elements key e = cc
by_tests false false true true elements key e = cc

-- a key that elements make has these elements
pub made : (elements key : Key) → key_of elements ≡ Ok key → key ≡ elements
unfolding key_of
made elements key e =
    by_tests (length elements == 0 || list_any is_empty_part elements) (nat_lt 20 (length elements)) (list_all has_no_control elements) (is_path elements) elements key e
