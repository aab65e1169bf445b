-- Worked cases of commands that are well made, and others.
use Rattle.std.specs.Prelude.{◌≡◌, refl, List, [], ◌∷◌, Some, None, Bool, true, false, codes, map}
use Rattle.cat_codes.specs.Code.{u8_spelling, u16_spelling, u32_spelling, u64_spelling, i64_spelling, i32_spelling, list, ascending}
use Rattle.cat_codes.specs.Texts.{text_code}
use Rattle.cat_names.specs.Fields.{id_code}
use Rattle.cat_names.specs.declared.hash.ContentId.{ContentId}
use Rattle.cat_model.specs.declared.command.Command.TheVariants as commands
use Rattle.cat_model.specs.declared.content.Content.{Content}
use Rattle.cat_model.specs.declared.op.Op.{Op}
use Rattle.cat_model.specs.declared.reference.Kind.TheVariants.{Branch}
use Rattle.cat_model.specs.declared.op.Op.TheVariants.{Put, Delete, Unchanged}
use Rattle.cat_model.specs.Contents.{table_code, namespace_code, of_table, of_namespace, content_code}
use Rattle.cat_model.specs.State.{entry_for}
use Rattle.cat_model.specs.WellMade.{may_be_asked, have_contents, is_well_made}
use Rattle.cat_model.proofs.Rows.Words.{main, H0, note, table, namespace, no_id, new, again, quick, t1, t2, t9, a, a-t, m1}

abbrev asked : List Op → List Content → Bool
asked ops contents = is_well_made quick (commands.Commit (record { branch = main; expected = None; meta = note; ops = ops; contents = contents }))

abbrev a_table : Content
a_table = table no_id m1

abbrev one : ContentId
one = record { bytes = 1 ∷ [] }

abbrev two : ContentId
two = record { bytes = 2 ∷ [] }

-- keys come once, ids that were given too, and a fresh id is compared with none
distinct_keys_and_ids : map may_be_asked (
    (new t1 a_table ∷ Delete t2 ∷ Unchanged t9 ∷ [])
    ∷ (new t1 a_table ∷ Delete t1 ∷ [])
    ∷ (Unchanged t1 ∷ Delete t2 ∷ Unchanged t1 ∷ [])
    ∷ (again t1 (table one m1) ∷ again t2 (table two m1) ∷ [])
    ∷ (again t1 (table one m1) ∷ Delete t9 ∷ again t2 (table one m1) ∷ [])
    ∷ (new t1 a_table ∷ new t2 a_table ∷ again t9 a_table ∷ [])
    ∷ []
    ∷ [])
    ≡ true ∷ false ∷ false ∷ true ∷ false ∷ true ∷ false ∷ []
unfolding u8_spelling u16_spelling u32_spelling u64_spelling i64_spelling i32_spelling list ascending text_code id_code table_code namespace_code of_table of_namespace content_code may_be_asked
distinct_keys_and_ids = refl

-- each PUT has its own content, and none is left over
contents_of_puts : map (λ (x : List Op × List Content). asked x.0 x.1) (
    (new t1 a_table ∷ [], a_table ∷ [])
    ∷ (new t1 a_table ∷ [], [])
    ∷ (new t1 a_table ∷ [], a_table ∷ a_table ∷ [])
    ∷ (Delete t1 ∷ [], [])
    ∷ (Delete t1 ∷ [], a_table ∷ [])
    ∷ (Unchanged t1 ∷ Delete t2 ∷ new t9 a_table ∷ [], a_table ∷ [])
    ∷ (new a (namespace a) ∷ new a-t a_table ∷ [], namespace a ∷ a_table ∷ [])
    ∷ (new a (namespace a) ∷ new a-t a_table ∷ [], a_table ∷ namespace a ∷ [])
    ∷ [])
    ≡ true ∷ false ∷ false ∷ true ∷ false ∷ true ∷ true ∷ false ∷ []
unfolding u8_spelling u16_spelling u32_spelling u64_spelling i64_spelling i32_spelling list ascending text_code id_code table_code namespace_code of_table of_namespace content_code may_be_asked have_contents is_well_made
contents_of_puts = refl

-- a namespace has its key's elements; a content whose id was given has the entry's type, id and hash
contents_that_belong : map (λ (x : List Op × List Content). asked x.0 x.1) (
    (new t1 (namespace t1) ∷ [], namespace t1 ∷ [])
    ∷ (new t1 (namespace a) ∷ [], namespace a ∷ [])
    ∷ (new a-t (namespace a-t) ∷ [], namespace a-t ∷ [])
    ∷ (again t1 (table one m1) ∷ [], table one m1 ∷ [])
    ∷ (again t1 (table one m1) ∷ [], table two m1 ∷ [])
    ∷ (again t1 (table one m1) ∷ [], table one (codes "m2") ∷ [])
    ∷ (Put t1 (record (entry_for quick (table one m1)) { id = two }) false ∷ [], table one m1 ∷ [])
    ∷ (Put t1 (entry_for quick (table one m1)) true ∷ [], table two (codes "m2") ∷ [])
    ∷ (new t1 (namespace t1) ∷ [], a_table ∷ [])
    ∷ [])
    ≡ true ∷ false ∷ true ∷ true ∷ false ∷ false ∷ false ∷ true ∷ false ∷ []
unfolding u8_spelling u16_spelling u32_spelling u64_spelling i64_spelling i32_spelling list ascending text_code id_code table_code namespace_code of_table of_namespace content_code may_be_asked have_contents is_well_made
contents_that_belong = refl

-- a source has a name or a hash
sources : map (is_well_made quick) (
    commands.Create (record { name = main; kind = Branch; source = record { name = Some main; hash = None }; source_kind = None })
    ∷ commands.Create (record { name = main; kind = Branch; source = record { name = None; hash = Some H0 }; source_kind = None })
    ∷ commands.Create (record { name = main; kind = Branch; source = record { name = None; hash = None }; source_kind = None })
    ∷ commands.Assign (record { name = main; kind = None; expected = None; source = record { name = None; hash = Some H0 }; source_kind = None })
    ∷ commands.Assign (record { name = main; kind = None; expected = None; source = record { name = None; hash = None }; source_kind = None })
    ∷ commands.Delete (record { name = main; kind = None; expected = None })
    ∷ [])
    ≡ true ∷ true ∷ false ∷ true ∷ false ∷ true ∷ []
unfolding is_well_made
sources = refl
