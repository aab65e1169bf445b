-- The byte formats of entries and commits.
use Rattle.std.specs.Prelude.{ℕ, zero, suc, List, [], ◌∷◌, Option, Some, None, nat_le, bytes_eq, codes, if◌then◌else◌}
use Rattle.std.specs.Ordering.{nat_cmp}
use Rattle.std.specs.Cmp.Lexicographic.{slice_cmp}
use Rattle.cat_codes.specs.declared.fault.FieldFault.TheVariants.{Range}
use Rattle.cat_codes.specs.Code.{Code, ◌⊗◌, as_type, chosen, only, prefixed, option, list, ascending, u8_code, u64_code}
use Rattle.cat_codes.specs.Texts.{text_code}
use Rattle.cat_names.specs.Fields.{hash_code, id_code, key_code, key_cmp}
use Rattle.cat_model.specs.declared.entry.ContentKind.{ContentKind}
use Rattle.cat_model.specs.declared.entry.ContentKind.TheVariants.{IcebergTable, IcebergView, DeltaLakeTable, Namespace, Udf}
use Rattle.cat_model.specs.declared.entry.Entry.{Entry}
use Rattle.cat_model.specs.declared.commit.Meta.{Meta}
use Rattle.cat_model.specs.declared.commit.Commit.{Commit}

-- a moment, up to the end of the year 9999
unfoldable pub moment_code : Code ℕ
moment_code = only Range (λ n. nat_le n 253402207200999999) u64_code

-- ---- entries

-- the number of a type
abbrev pub kind_number : ContentKind → ℕ
kind_number IcebergTable = 1
kind_number IcebergView = 2
kind_number DeltaLakeTable = 3
kind_number Namespace = 4
kind_number Udf = 5

-- the type of a number
abbrev pub kind_of : ℕ → Option ContentKind
kind_of zero = None
kind_of (suc zero) = Some IcebergTable
kind_of (suc (suc zero)) = Some IcebergView
kind_of (suc (suc (suc zero))) = Some DeltaLakeTable
kind_of (suc (suc (suc (suc zero)))) = Some Namespace
kind_of (suc (suc (suc (suc (suc zero))))) = Some Udf
kind_of (suc (suc (suc (suc (suc (suc n)))))) = None

-- the name of a type
abbrev pub kind_name : ContentKind → List ℕ
kind_name IcebergTable = codes "ICEBERG_TABLE"
kind_name IcebergView = codes "ICEBERG_VIEW"
kind_name DeltaLakeTable = codes "DELTA_LAKE_TABLE"
kind_name Namespace = codes "NAMESPACE"
kind_name Udf = codes "UDF"

-- the type of a name
abbrev pub kind_named : List ℕ → Option ContentKind
kind_named text =
    if bytes_eq text (codes "ICEBERG_TABLE") then Some IcebergTable
    else if bytes_eq text (codes "ICEBERG_VIEW") then Some IcebergView
    else if bytes_eq text (codes "DELTA_LAKE_TABLE") then Some DeltaLakeTable
    else if bytes_eq text (codes "NAMESPACE") then Some Namespace
    else if bytes_eq text (codes "UDF") then Some Udf
    else None

-- a type as its number
unfoldable pub kind_code : Code ContentKind
kind_code = chosen kind_number kind_of u8_code

-- an entry: type, id and hash of the content
unfoldable pub entry_code : Code Entry
entry_code = as_type (λ e. (e.kind, (e.id, e.hash))) (λ x. record { kind = x.0; id = x.1.0; hash = x.1.1 }) (kind_code ⊗ id_code ⊗ hash_code)

-- ---- commits

-- what is said of a commit
unfoldable pub meta_code : Code Meta
meta_code = as_type
    (λ m. (m.message, (m.authors, (m.signed, (m.properties, m.author_time)))))
    (λ x. record { message = x.0; authors = x.1.0; signed = x.1.1.0; properties = x.1.1.1.0; author_time = x.1.1.1.1 })
    (text_code ⊗ list text_code ⊗ list text_code ⊗ ascending (slice_cmp nat_cmp) text_code (list text_code) ⊗ option moment_code)

-- a commit behind three letters
unfoldable pub commit_code : Code Commit
commit_code = prefixed (78 ∷ 67 ∷ 49 ∷ []) (as_type
    (λ c. (c.parent, (c.merge_parent, (c.generation, (c.time, (c.meta, c.ops))))))
    (λ x. record { parent = x.0; merge_parent = x.1.0; generation = x.1.1.0; time = x.1.1.1.0; meta = x.1.1.1.1.0; ops = x.1.1.1.1.1 })
    (hash_code ⊗ option hash_code ⊗ u64_code ⊗ moment_code ⊗ meta_code ⊗ ascending key_cmp key_code (option entry_code)))
