-- A printed declaration reads as itself.
use Rattle.std.proofs.Common.{◌≡◌, ℕ, ◌≤◌, List, [], ◌∷◌, ◌++◌, length, map, Option, Some, None, IfSome, Bool, true, false, if◌then◌else◌, true≢false, codes, refl, ap, ap₂, sym, ◌∙◌, arith}
use Rattle.std.specs.Prelude.{option_map}
use Rattle.std.proofs.lemmas.List.{append_assoc, length-map}
use Rattle.sil_ast.specs.declared.decl.Case.{Case}
use Rattle.sil_ast.specs.declared.decl.Decl.{Decl}
use Rattle.sil_ast.specs.declared.decl.Decl.TheVariants as decl
use Rattle.sil_ast.specs.declared.decl.Field.{Field}
use Rattle.sil_ast.specs.declared.decl.Storage.{Storage}
use Rattle.sil_ast.specs.declared.decl.Storage.TheVariants as storage
use Rattle.instruction_table.specs.declared.op.Op.TheVariants as op
use Rattle.sil_ast.specs.declared.type_name.TypeName.{TypeName, TypeName-F, fold_out-TypeName, map-TypeName, out-TypeName}
use Rattle.sil_printer.specs.CanonicalDecls.{case_text, decl_text, field_text, heading, payload_text}
use Rattle.sil_printer.specs.CanonicalTypes.{is_several, several_over, type_over, type_text}
use Rattle.sil_printer.specs.Words.{if_there, indented, line, opening}
use Rattle.sil_grammar_classes.specs.declared.classes.Keyword.TheVariants as k
use Rattle.sil_grammar_classes.specs.declared.classes.Punctuation.TheVariants as m
use Rattle.sil_grammar_tables.specs.declared.grammar.Nonterminal.TheVariants as n
use Rattle.sil_grammar_tables.specs.declared.grammar.Production.TheVariants as p
use Rattle.sil_grammar_tables.specs.Grammar.{body, written}
use Rattle.sil_grammar_classes.specs.Spelling.{punctuation_spelling, spelling}
use Rattle.sil_grammar_tree.specs.declared.written_tree.written_declarations.WrittenField.{WrittenField}
use Rattle.sil_grammar_tree.specs.declared.written_tree.written_module.WrittenItem.TheVariants as item
use Rattle.sil_rules.specs.declared.limit_word.LimitWord.TheVariants as limit
use Rattle.sil_grammar_tree.specs.WrittenTree.Faults.{passed}
use Rattle.sil_grammar_tree.specs.WrittenTree.Places.{case_place, field_place}
use Rattle.sil_grammar_modules.specs.Leaves.{kept_of}
use Rattle.sil_grammar_values.specs.inner.Meaning.{meaning}
use Rattle.sil_grammar_values.specs.Opened.{PartValue}
use Rattle.sil_grammar_values.specs.inner.PartFaults.{part_fault}
use Rattle.sil_grammar_values.specs.Values.{cases_of, field_before, field_of, fields_of, item_of, payload_of, superclass_of, token_of}
use Rattle.sil_grammar_names.specs.NameScopes.Names.{name_of}
use Rattle.sil_grammar_names.specs.NameResolution.Resolved.{resolved_case, resolved_field}
use Rattle.numbered_form.specs.inner.Fields.{HasStrongFields, IsStrong}
use Rattle.numbered_form.specs.Lists.{Each}
use Rattle.numbered_form.specs.inner.Limits.{IsDeclInLimits}
use Rattle.numbered_form.specs.Names.{IsWord, Name, case_name, decl_name, field_name, member_names, superclass_in}
use Rattle.numbered_form.specs.inner.Types.{HasDeclTypes, HasFieldType, HasPayloadType, IsPlainType}
use Rattle.sil_printer_laws.proofs.Braced.{braced_reads}
use Rattle.sil_printer_laws.proofs.FixedTokens.{any_word, keyword_here, punctuation_here}
use Rattle.sil_printer_laws.proofs.PartLimits.{not_passed}
use Rattle.sil_printer_laws.proofs.Pieces.{Ends, Stands, Reads as reads}
use Rattle.sil_printer_laws.proofs.ProductionReading.{stands_by, part_here}
use Rattle.sil_printer_laws.proofs.TextsInFront.{braced_ahead, line_ahead}
use Rattle.sil_printer_laws.proofs.TypeReading.{payload_reads, type_reads}
use Rattle.sil_printer_laws.proofs.Written.{IsDeclWritten}
use Rattle.sil_printer_laws.proofs.Items.{IsItem}

-- the part stands for the field, and is one of the members
pub record IsFieldValue (f : Field) (x : PartValue) : Type 0 where
  pub field : resolved_field (field_of x) ≡ f
  pub kept : (others : List WrittenField) → field_before x others ≡ field_of x ∷ others

abbrev pub plain_field : Name → TypeName → Field
plain_field name t = record { name = name; storage = storage.Strong; ty = t }

-- `var f: T`
binding_reads : (text : List ℕ) (name : Name) (t : TypeName) (after : List ℕ) → IsWord name → IsPlainType t → Ends after
    → Stands text n.Binding (IsFieldValue (plain_field name t)) (codes "var " ++ (name ++ (codes ": " ++ (type_text t ++ after)))) after
unfolding body written meaning part_fault spelling punctuation_spelling kept_of token_of field_of field_before
binding_reads text name t after spelled plain ends =
    let ty = type_reads text t after plain ends in
    let inside = keyword_here k.Var refl refl (reads.blank 32 refl (any_word name spelled refl
    (punctuation_here m.Colon 58 refl refl (reads.blank 32 refl (part_here ty (reads.rule p.AccessorsNone reads.nothing refl reads.nothing)))))) in
    stands_by p.VarBinding (IsFieldValue (plain_field name t)) inside refl (record { field = ap (plain_field name) ty.stands.ty; kept = λ others. refl })

-- the same with its storage
variable_reads : (text : List ℕ) (name : Name) (how : Storage) (t : TypeName) (after : List ℕ) → IsWord name → IsPlainType t → Ends after
    → Stands text n.Variable (IsFieldValue (record { name = name; storage = how; ty = t })) (field_text (record { name = name; storage = how; ty = t }) ++ after) after
unfolding body written meaning part_fault spelling punctuation_spelling field_of field_before
variable_reads text name storage.Strong t after spelled plain ends =
    let binding = binding_reads text name t after spelled plain ends in
    simp append_assoc (stands_by p.StrongVariable (IsFieldValue (plain_field name t)) (part_here binding reads.nothing) refl binding.stands)
variable_reads text name storage.Weak t after spelled plain ends =
    let binding = binding_reads text name t after spelled plain ends in
    let inside = keyword_here k.Weak refl refl (reads.blank 32 refl (part_here binding reads.nothing)) in
    simp append_assoc (stands_by p.WeakVariable (IsFieldValue (record { name = name; storage = storage.Weak; ty = t })) inside refl
    (record { field = ap {A = Field} (λ f. record f { storage = storage.Weak }) binding.stands.field; kept = λ others. refl }))
variable_reads text name storage.Unowned t after spelled plain ends =
    let binding = binding_reads text name t after spelled plain ends in
    let inside = keyword_here k.Unowned refl refl (reads.blank 32 refl (part_here binding reads.nothing)) in
    simp append_assoc (stands_by p.UnownedVariable (IsFieldValue (record { name = name; storage = storage.Unowned; ty = t })) inside refl
    (record { field = ap {A = Field} (λ f. record f { storage = storage.Unowned }) binding.stands.field; kept = λ others. refl }))

abbrev pub AreFields : List Field → PartValue → Type 0
AreFields fields x = map resolved_field (fields_of x) ≡ fields

abbrev pub IsFieldPrintable : Field → Type 0
IsFieldPrintable f = IsWord f.name × IsPlainType f.ty

-- a field in front of others
field_in_front : (f : Field) (fields : List Field) (x : PartValue) (others : List WrittenField) → IsFieldValue f x → map resolved_field others ≡ fields
    → map resolved_field (field_before x others) ≡ f ∷ fields
field_in_front f fields x others is rest = ap (map resolved_field) (is.kept others) ∙ ap₂ (λ f fields. f ∷ fields) is.field rest

members_read : (text : List ℕ) (fields : List Field) (after : List ℕ) → Each IsFieldPrintable fields
    → Stands text n.Members (AreFields fields) (indented field_text fields ++ after) after
unfolding body written meaning part_fault fields_of
members_read text [] after printable = stands_by p.MembersEnd (AreFields []) reads.nothing refl refl
members_read text (f ∷ fields) after printable =
    let rest = members_read text fields after printable.1 in
    let variable = variable_reads text f.name f.storage f.ty (10 ∷ (indented field_text fields ++ after)) printable.0.0 printable.0.1 refl in
    let member = stands_by p.PlainMember (IsFieldValue f) (part_here variable reads.nothing) refl variable.stands in
    rw (line_ahead (field_text f) (indented field_text fields) after)
    (stands_by p.MembersMore (AreFields (f ∷ fields)) (reads.blank 32 refl (reads.blank 32 refl (part_here member (reads.blank 10 refl (part_here rest reads.nothing))))) refl
    (field_in_front f fields member.value (fields_of rest.value) member.stands rest.stands))

-- a field of a struct, which has no word of storage
strong_reads : (text : List ℕ) (name : Name) (how : Storage) (t : TypeName) (after : List ℕ) → how ≡ storage.Strong → IsWord name → IsPlainType t → Ends after
    → Stands text n.Field (IsFieldValue (record { name = name; storage = how; ty = t })) (field_text (record { name = name; storage = how; ty = t }) ++ after) after
unfolding body written meaning part_fault
strong_reads text name storage.Strong t after e spelled plain ends =
    let binding = binding_reads text name t after spelled plain ends in
    simp append_assoc (stands_by p.PlainField (IsFieldValue (plain_field name t)) (part_here binding reads.nothing) refl binding.stands)
strong_reads text name storage.Weak t after e spelled plain ends = absurd (cc)
strong_reads text name storage.Unowned t after e spelled plain ends = absurd (cc)

fields_read : (text : List ℕ) (fields : List Field) (after : List ℕ) → Each IsFieldPrintable fields → Each IsStrong fields
    → Stands text n.Fields (AreFields fields) (indented field_text fields ++ after) after
unfolding body written meaning part_fault fields_of
fields_read text [] after printable strong = stands_by p.FieldsEnd (AreFields []) reads.nothing refl refl
fields_read text (f ∷ fields) after printable strong =
    let rest = fields_read text fields after printable.1 strong.1 in
    let field = strong_reads text f.name f.storage f.ty (10 ∷ (indented field_text fields ++ after)) strong.0 printable.0.0 printable.0.1 refl in
    rw (line_ahead (field_text f) (indented field_text fields) after)
    (stands_by p.FieldsMore (AreFields (f ∷ fields)) (reads.blank 32 refl (reads.blank 32 refl (part_here field (reads.blank 10 refl (part_here rest reads.nothing))))) refl
    (field_in_front f fields field.value (fields_of rest.value) field.stands rest.stands))

abbrev pub AreCases : List Case → PartValue → Type 0
AreCases cases x = map resolved_case (cases_of x) ≡ cases

abbrev pub IsCasePrintable : Case → Type 0
IsCasePrintable c = IsWord c.name × IfSome c.payload IsPlainType

-- what stands behind the name of a case
payload_stands : (text : List ℕ) (payload : Option TypeName) (after : List ℕ) → IfSome payload IsPlainType
    → Stands text n.Payload (λ x. payload_of x ≡ payload) (if_there [] payload_text payload ++ after) after
unfolding body written meaning part_fault payload_of
payload_stands text None after plain = stands_by p.PayloadNone (λ x. payload_of x ≡ None) reads.nothing refl refl
payload_stands text (Some t) after plain = payload_reads text t after plain

-- a payload begins with a parenthesis
payload_layer : (several : Bool) (text : List ℕ) (layer : TypeName-F TypeName) (after : List ℕ)
    → several ≡ several_over (map-TypeName TypeName Bool is_several layer) → text ≡ type_over (map-TypeName TypeName (List ℕ) type_text layer)
    → Ends ((if several then text else codes "(" ++ text ++ codes ")") ++ after)
payload_layer false text layer after e f = refl
payload_layer true text (TypeName-F.Tuple elements) after e f = rw f refl
payload_layer true text (TypeName-F.Int width) after e f = absurd (true≢false e)
payload_layer true text (TypeName-F.Named name) after e f = absurd (true≢false e)
payload_layer true text (TypeName-F.Optional target) after e f = absurd (true≢false e)
payload_layer true text (TypeName-F.Weak target) after e f = absurd (true≢false e)
payload_layer true text (TypeName-F.Unowned target) after e f = absurd (true≢false e)
payload_layer true text (TypeName-F.Address target) after e f = absurd (true≢false e)

-- so the name of the case ends before it
payload_ends : (payload : Option TypeName) (after : List ℕ) → Ends after → Ends (if_there [] payload_text payload ++ after)
payload_ends None after ends = ends
payload_ends (Some t) after ends =
    payload_layer (is_several t) (type_text t) (out-TypeName t) after (fold_out-TypeName Bool several_over t) (fold_out-TypeName (List ℕ) type_over t)

cases_read : (text : List ℕ) (cases : List Case) (after : List ℕ) → Each IsCasePrintable cases
    → Stands text n.Cases (AreCases cases) (indented case_text cases ++ after) after
unfolding body written meaning part_fault cases_of spelling kept_of token_of
cases_read text [] after printable = stands_by p.CasesEnd (AreCases []) reads.nothing refl refl
cases_read text (c ∷ cases) after printable =
    let rest = cases_read text cases after printable.1 in
    let behind_name = 10 ∷ (indented case_text cases ++ after) in
    let payload = payload_stands text c.payload behind_name printable.0.1 in
    rw (line_ahead (case_text c) (indented case_text cases) after)
    (rw (append_assoc (codes "case " ++ c.name) (if_there [] payload_text c.payload) behind_name)
    (stands_by p.CasesMore (AreCases (c ∷ cases)) (reads.blank 32 refl (reads.blank 32 refl
    (keyword_here k.Case refl refl (reads.blank 32 refl (any_word c.name printable.0.0 (payload_ends c.payload behind_name refl)
    (part_here payload (reads.blank 10 refl (part_here rest reads.nothing)))))))) refl
    (ap₂ (λ payload others. record { name = c.name; payload = payload } ∷ others) payload.stands rest.stands)))

-- what stands behind the name of a class, before the brace
abbrev behind_class : Option Name → List ℕ → List ℕ
behind_class None rest = rest
behind_class (Some superclass) rest = 32 ∷ 58 ∷ 32 ∷ (superclass ++ rest)

class_ahead : (name : Name) (superclass : Option Name) (inside after : List ℕ)
    → (opening (codes "class ") (heading name superclass) ++ inside ++ line (codes "}")) ++ after
    ≡ codes "class" ++ (32 ∷ (name ++ behind_class superclass (32 ∷ 123 ∷ 10 ∷ (inside ++ (125 ∷ 10 ∷ after)))))
class_ahead name None inside after = braced_ahead (codes "class ") name inside after
class_ahead name (Some superclass) inside after = braced_ahead (codes "class ") (name ++ codes " : " ++ superclass) inside after ∙ simp append_assoc refl

-- so the name of the class ends before it
class_ends : (superclass : Option Name) (rest : List ℕ) → Ends (behind_class superclass (32 ∷ rest))
class_ends None rest = refl
class_ends (Some superclass) rest = refl

superclass_reads : (text : List ℕ) (superclass : Option Name) (rest : List ℕ) → IfSome superclass IsWord
    → Stands text n.Superclass (λ x. option_map name_of (superclass_of x) ≡ superclass) (behind_class superclass (32 ∷ rest)) (32 ∷ rest)
unfolding body written meaning part_fault punctuation_spelling kept_of token_of superclass_of
superclass_reads text None rest spelled = stands_by p.SuperclassNone (λ x. option_map name_of (superclass_of x) ≡ None) reads.nothing refl refl
superclass_reads text (Some superclass) rest spelled =
    stands_by p.SuperclassSome (λ x. option_map name_of (superclass_of x) ≡ Some superclass)
    (reads.blank 32 refl (punctuation_here m.Colon 58 refl refl (reads.blank 32 refl (any_word superclass spelled refl reads.nothing)))) refl refl

pub record IsDeclPrintable (d : Decl) : Type 0 where
  pub name : IsWord (decl_name d)
  pub superclass : IfSome (superclass_in d) IsWord
  pub members : Each IsWord (member_names d)
  pub types : HasDeclTypes d
  pub strong : HasStrongFields d
  pub limits : IsDeclInLimits d

few_fields : (x : PartValue) (fields : List Field) → AreFields fields x → length (map field_name fields) ≤ 64 → passed limit.Members 64 (map field_place (fields_of x)) ≡ None
few_fields x fields is few =
    let same : length (map field_place (fields_of x)) ≡ length (map field_name fields) =
    length-map (fields_of x) field_place ∙ sym (length-map (fields_of x) resolved_field) ∙ ap length is ∙ sym (length-map fields field_name) in
    not_passed limit.Members 64 (map field_place (fields_of x)) (omega (arith, same, few))

few_cases : (x : PartValue) (cases : List Case) → AreCases cases x → length (map case_name cases) ≤ 64 → passed limit.Members 64 (map case_place (cases_of x)) ≡ None
few_cases x cases is few =
    let same : length (map case_place (cases_of x)) ≡ length (map case_name cases) =
    length-map (cases_of x) case_place ∙ sym (length-map (cases_of x) resolved_case) ∙ ap length is ∙ sym (length-map cases case_name) in
    not_passed limit.Members 64 (map case_place (cases_of x)) (omega (arith, same, few))

fields_printable : (fields : List Field) → Each IsWord (map field_name fields) → Each HasFieldType fields → Each IsFieldPrintable fields
fields_printable [] spelled types = tt
fields_printable (f ∷ fields) spelled types = ((spelled.0, types.0), fields_printable fields spelled.1 types.1)

cases_printable : (cases : List Case) → Each IsWord (map case_name cases) → Each HasPayloadType cases → Each IsCasePrintable cases
cases_printable [] spelled types = tt
cases_printable (c ∷ cases) spelled types = ((spelled.0, types.0), cases_printable cases spelled.1 types.1)

pub decl_reads : (text : List ℕ) (d : Decl) (after : List ℕ) → IsDeclPrintable d
    → Stands text n.Item (IsItem item.Decl IsDeclWritten d) (decl_text d ++ after) after
unfolding body written meaning part_fault item_of spelling punctuation_spelling kept_of token_of
decl_reads text (decl.Struct name fields) after printable =
    let inside = fields_read text fields (125 ∷ 10 ∷ after) (fields_printable fields printable.members printable.types) printable.strong in
    let whole = braced_reads (k.Mnemonic op.Struct) name (indented field_text fields) after refl printable.name inside in
    stands_by p.StructItem (IsItem item.Decl IsDeclWritten (decl.Struct name fields)) whole.reads (few_fields inside.value fields inside.stands printable.limits)
    (record { item = _; is_item = refl; stands = ap₂ decl.Struct whole.named inside.stands })
decl_reads text (decl.Enum name cases) after printable =
    let inside = cases_read text cases (125 ∷ 10 ∷ after) (cases_printable cases printable.members printable.types) in
    let whole = braced_reads (k.Mnemonic op.Enum) name (indented case_text cases) after refl printable.name inside in
    stands_by p.EnumItem (IsItem item.Decl IsDeclWritten (decl.Enum name cases)) whole.reads (few_cases inside.value cases inside.stands printable.limits)
    (record { item = _; is_item = refl; stands = ap₂ decl.Enum whole.named inside.stands })
decl_reads text (decl.Class name superclass fields) after printable =
    let inside = members_read text fields (125 ∷ 10 ∷ after) (fields_printable fields printable.members printable.types) in
    let begun = 10 ∷ (indented field_text fields ++ (125 ∷ 10 ∷ after)) in
    let above = superclass_reads text superclass (123 ∷ begun) printable.superclass in
    rw (class_ahead name superclass (indented field_text fields) after)
    (stands_by p.PlainClass (IsItem item.Decl IsDeclWritten (decl.Class name superclass fields))
    (keyword_here k.Class refl refl (reads.blank 32 refl (any_word name printable.name (class_ends superclass (123 ∷ begun)) (part_here above
    (reads.blank 32 refl (punctuation_here m.LeftBrace 123 refl refl (reads.blank 10 refl (part_here inside
    (punctuation_here m.RightBrace 125 refl refl (reads.blank 10 refl reads.nothing))))))))))
    (few_fields inside.value fields inside.stands printable.limits)
    (record { item = _; is_item = refl; stands = ap₂ (λ s fs. decl.Class name s fs) above.stands inside.stands }))
