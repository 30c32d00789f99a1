use Rattle.std.proofs.Common.{◌∙◌, suc, Bool, [], Some, drop, map, add-one, sym, ap, if◌then◌else◌}
use Rattle.std.specs.Prelude.{slice_index_or}
use Rattle.httparse.specs.Borrowed.{header_parts}
use Rattle.httparse.specs.declared.borrowed.Header.{Header}
use Rattle.access_logs.specs.Entries.{value_named}
use Rattle.access_logs.proofs.FieldLemmas.{named_is, value_named-at}
use Rattle.access_logs.proofs.message.value_of.Goals as goal

no_field : Header
no_field = record { name = record { ref_ptr = (0, 0); now = [] }; value = record { ref_ptr = (0, 0); now = [] } }

pub returns-then-eq_ignore_ascii_case : goal.returns-then-eq_ignore_ascii_case
unfolding no_field
returns-then-eq_ignore_ascii_case c =
    let name = c.args.name.now in
    let fields = c.args.fields.now in
    let index = c.loop-field.field-index in
    let field = slice_index_or fields index no_field in
    sym (c.loop-field.invariant ∙ value_named-at name fields index no_field c.loop-field-test.true
    ∙ ap (λ (is : Bool). if is then Some field.value.now else value_named name
    (map header_parts (drop (suc index) fields)))
    (named_is name (header_parts field) c.eq_ignore_ascii_case.result c.eq_ignore_ascii_case.ensures.test
    ∙ c.if-eq_ignore_ascii_case.true))

pub loop-field-preserved : goal.loop-field-preserved
unfolding no_field
loop-field-preserved c =
    let name = c.args.name.now in
    let fields = c.args.fields.now in
    let index = c.loop-field.field-index in
    let field = slice_index_or fields index no_field in
    rw add-one
    (c.loop-field.invariant ∙ value_named-at name fields index no_field c.loop-field-test.true
    ∙ ap (λ (is : Bool). if is then Some field.value.now else value_named name
    (map header_parts (drop (suc index) fields)))
    (named_is name (header_parts field) c.eq_ignore_ascii_case.result c.eq_ignore_ascii_case.ensures.test
    ∙ c.if-eq_ignore_ascii_case.false))
