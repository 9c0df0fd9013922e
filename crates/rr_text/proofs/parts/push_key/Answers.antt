use Rattle.std.proofs.Common.{◌≡◌, ◌∙◌, ℕ, List, ◌++◌, codes, OnOk, ap, subst}
use Rattle.rr_space.specs.Parts.{value_of}
use Rattle.rr_text.specs.Names.{names_of}
use Rattle.rr_text.specs.Quoted.{quoted}
use Rattle.rr_text.proofs.Turning.{text_key}
use Rattle.rr_text.proofs.parts.push_key.Goals as goal

pub returns-in-Local-clause-written : goal.returns-in-Local-clause-written
returns-in-Local-clause-written c = λ below read among.
    subst (λ (s : List ℕ). OnOk c.push_text_key.result (c.push_text_key.new.out.items ≡ c.args.out.now.items ++ s))
    (ap (λ (b : List ℕ). quoted b ++ codes " => ") c.text_bytes.ensures
    ∙ text_key (names_of c.args.program.now) c.args.space.now below c.args.key _ c.requires.sound read among (ap value_of c.in-Local.is))
    c.push_text_key.ensures

pub returns-in-Shared-clause-written : goal.returns-in-Shared-clause-written
returns-in-Shared-clause-written c = λ below read among.
    subst (λ (s : List ℕ). OnOk c.push_text_key-in-Shared.result (c.push_text_key-in-Shared.new.out.items ≡ c.args.out.now.items ++ s))
    (ap (λ (b : List ℕ). quoted b ++ codes " => ") c.text_bytes-in-Shared.ensures
    ∙ text_key (names_of c.args.program.now) c.args.space.now below c.args.key _ c.requires.sound read among (ap value_of c.in-Shared.is))
    c.push_text_key-in-Shared.ensures
