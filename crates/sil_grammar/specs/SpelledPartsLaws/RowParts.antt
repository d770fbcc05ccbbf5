-- The row of an instruction, from the parts of its form, and what is at fault in it.
use Rattle.std.specs.Prelude.{◌≡◌, List, [], ◌∷◌, ◌++◌, length, drop, map, None, Option, Some, ℤ}
use Rattle.instruction_table.specs.Forms.{detail_of, ending_of}
use Rattle.instruction_table.specs.declared.entries.Ending.{Ending}
use Rattle.instruction_table.specs.declared.entries.Ending.TheVariants as ending
use Rattle.instruction_table.specs.declared.forms.Part.{Part}
use Rattle.instruction_table.specs.declared.forms.Part.TheVariants as form
use Rattle.instruction_table.specs.declared.op.Op.{Op}
use Rattle.sil_grammar_tables.specs.Rows.{comma_behind}
use Rattle.sil_rules.specs.declared.limit_word.LimitWord.TheVariants as limit
use Rattle.sil_rules.specs.declared.limits.TheConstants.{ARGUMENTS}
use Rattle.sil_grammar_values.specs.Opened.{PartValue}
use Rattle.sil_grammar_values.specs.Variants as v
use Rattle.sil_grammar_tree.specs.WrittenTree.Places.{operand_place}
use Rattle.sil_grammar_tree.specs.declared.written_tree.fault.Fault.{Fault}
use Rattle.sil_grammar_tree.specs.declared.written_tree.written_declarations.WrittenToken.{WrittenToken}
use Rattle.sil_grammar_tree.specs.declared.written_tree.written_instructions.WrittenEdge.{WrittenEdge}
use Rattle.sil_grammar_tree.specs.declared.written_tree.written_instructions.WrittenInst.{WrittenInst}
use Rattle.sil_grammar_tree.specs.declared.written_tree.written_instructions.WrittenOperand.{WrittenOperand}
use Rattle.sil_grammar.specs.SpelledPartsLaws.Limits.{no_number, number_of, past}

-- an operand of which only the name is written
abbrev pub bare : WrittenToken → WrittenOperand
bare name = record { name = name; ty = None }

-- the values behind a part and its comma, if it has one
abbrev pub past_comma : Op → Part → List Part → List PartValue → List PartValue
past_comma o here others values = drop (length (comma_behind o here others)) values

-- the blocks that a terminator goes to, and the values behind them: one block, two with a comma between, or cases and a default
unfoldable pub AreEdges : Ending → List PartValue → List WrittenEdge → List PartValue → Type 0
AreEdges ending.OneBranch (v.Edge e ∷ values) edges rest = (edges ≡ e ∷ []) × (rest ≡ values)
AreEdges ending.TwoBranches (v.Edge e ∷ _ ∷ v.Edge f ∷ values) edges rest = (edges ≡ e ∷ f ∷ []) × (rest ≡ values)
AreEdges ending.Cases (v.Edges es ∷ values) edges rest = (edges ≡ es) × (rest ≡ values)
AreEdges _ _ _ _ = ⊥

-- the instruction that comes of one of which so much is written, by these parts more and what they stand for, and the faults
-- in these parts: a number that is out of its range, and arguments by which the operands become too many
unfoldable pub IsRow : Op → List Part → List PartValue → WrittenInst → WrittenInst → List Fault → Type 0
IsRow o [] [] i inst faults = (inst ≡ i) × (faults ≡ [])
IsRow o (form.Flags ∷ others) (v.Flags f ∷ values) i inst faults = IsRow o others values (record i { lexical = f.lexical; var_decl = f.var_decl }) inst faults
IsRow o (form.Qualifier ∷ others) (v.Qualifier q ∷ values) i inst faults = IsRow o others values (record i { qualifier = q }) inst faults
IsRow o (form.Typed ∷ others) (v.Operand operand ∷ values) i inst faults =
    IsRow o others (past_comma o form.Typed others values) (record i { operands = i.operands ++ operand ∷ [] }) inst faults
-- the operand of `enum` may be left out
IsRow o (form.Typed ∷ others) (v.Operands operands ∷ values) i inst faults =
    IsRow o others (past_comma o form.Typed others values) (record i { operands = i.operands ++ operands }) inst faults
IsRow o (form.Bare ∷ others) (v.Token name ∷ values) i inst faults =
    IsRow o others (past_comma o form.Bare others values) (record i { operands = i.operands ++ bare name ∷ [] }) inst faults
IsRow o (form.To ∷ others) (_ ∷ values) i inst faults = IsRow o others values i inst faults
IsRow o (form.TypeWord ∷ others) (_ ∷ v.Type t ∷ values) i inst faults =
    IsRow o others (past_comma o form.TypeWord others values) (record i { ty = Some t.ty }) inst faults
IsRow o (form.Member ∷ others) (v.Member m ∷ values) i inst faults =
    IsRow o others (past_comma o form.Member others values) (record i { member = Some m }) inst faults
IsRow o (form.Number ∷ others) (v.Token spelling ∷ values) i inst faults =
    let number : Option ℤ = number_of (detail_of o) i.ty spelling.text in
    (more : List Fault) × IsRow o others (past_comma o form.Number others values) (record i { number = number }) inst more
    × (faults ≡ no_number number spelling.place ++ more)
IsRow o (form.Text ∷ others) (v.Token text ∷ values) i inst faults =
    IsRow o others (past_comma o form.Text others values) (record i { text = Some text.text }) inst faults
IsRow o (form.Callee ∷ others) (v.Token name ∷ values) i inst faults = IsRow o others values (record i { function = Some name }) inst faults
IsRow o (form.BareArgs ∷ others) (_ ∷ v.Tokens names ∷ _ ∷ values) i inst faults =
    let operands : List WrittenOperand = i.operands ++ map bare names in
    (more : List Fault) × IsRow o others values (record i { operands = operands }) inst more
    × (faults ≡ past limit.Arguments ARGUMENTS (map operand_place operands) ++ more)
IsRow o (form.TypedArgs ∷ others) (_ ∷ v.Operands args ∷ _ ∷ values) i inst faults =
    let operands : List WrittenOperand = i.operands ++ args in
    (more : List Fault) × IsRow o others values (record i { operands = operands }) inst more
    × (faults ≡ past limit.Arguments ARGUMENTS (map operand_place operands) ++ more)
IsRow o (form.ResultType ∷ others) (_ ∷ _ ∷ v.Type t ∷ values) i inst faults = IsRow o others values (record i { ty = Some t.ty }) inst faults
IsRow o (form.SignatureWord ∷ others) (_ ∷ _ ∷ v.Signature s ∷ values) i inst faults = IsRow o others values (record i { signature = Some s }) inst faults
IsRow o (form.Debug ∷ others) (v.Debug d ∷ values) i inst faults = IsRow o others values (record i { debug = d }) inst faults
IsRow o (form.Edges ∷ others) values i inst faults =
    (edges : List WrittenEdge) × (rest : List PartValue) × AreEdges (ending_of o) values edges rest
    × IsRow o others (past_comma o form.Edges others rest) (record i { edges = edges }) inst faults
IsRow _ _ _ _ _ _ = ⊥
