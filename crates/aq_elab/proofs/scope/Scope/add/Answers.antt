use Rattle.std.proofs.Common.{ℕ, List, subst, sym, ap, ◌∙◌}
use Rattle.std.specs.Prelude.{All}
use Rattle.std.specs.Str.{bytes_eq}
use Rattle.std.proofs.lemmas.List.Elements.{All-push}
use Rattle.indexmap.specs.IndexMap.{insert_entry}
use Rattle.aq_elab.specs.Bounds.{IsShort, with_name}
use Rattle.aq_elab.specs.Known.{Known, declared_as}
use Rattle.aq_elab.specs.declared.scope.Declared.{Declared}
use Rattle.aq_elab.proofs.ScopeLaws.{names_added, name_added, known_of}
use Rattle.aq_elab.proofs.scope.Scope.add.Goals as goal

pub invariant_of-self-2 : goal.invariant_of-self-2
invariant_of-self-2 c =
    let absent = ap (λ (k : Known). declared_as k.names c.args.name.now) c.self.view_is ∙ c.requires.absent in
    let e = c.in-Ok.ensures.entries ∙ ap (λ (key : List ℕ). insert_entry bytes_eq c.self.inside.names.entries key c.args.declared) (c.in_ok-key.ensures ∙ c.as_slice.ensures) ∙ names_added c.self.inside.names.entries c.args.name.now c.args.declared absent in
    record {
      few_qubits = c.requires.few_qubits;
      few_bits = c.requires.few_bits;
      short = subst (All (λ (entry : List ℕ × Declared). IsShort entry.1.span)) (sym e) (All-push (λ (entry : List ℕ × Declared). IsShort entry.1.span) c.self.inside.names.entries (c.args.name.now, c.args.declared) c.self.invariant.short c.requires.short);
    }

pub returns-clause-added : goal.returns-clause-added
returns-clause-added c =
    let absent = ap (λ (k : Known). declared_as k.names c.args.name.now) c.self.view_is ∙ c.requires.absent in
    let e = c.in-Ok.ensures.entries ∙ ap (λ (key : List ℕ). insert_entry bytes_eq c.self.inside.names.entries key c.args.declared) (c.in_ok-key.ensures ∙ c.as_slice.ensures) ∙ names_added c.self.inside.names.entries c.args.name.now c.args.declared absent in
    let inside = known_of c.self.inside.names.entries c.self.inside.claims.keys c.self.inside.qubits c.self.inside.bits c.self.inside.statements in
    name_added inside c.insert.new.self.entries c.args.name.now c.args.declared c.args.qubits c.args.bits e ∙ ap (λ (k : Known). with_name k c.args.name.now c.args.declared c.args.qubits c.args.bits) c.self.view_is
