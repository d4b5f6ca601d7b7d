use Rattle.std.proofs.Common.{rules, ◌≡◌, ◌++◌, ◌∷◌, [], ℕ, length, List, ◌∙◌, ap, arith}
use Rattle.std.specs.Prelude.{string_bytes}
use Rattle.std.proofs.lemmas.List.{length-map, map-append}
use Rattle.gi_mir.specs.Names.{texts_of}
use Rattle.gi_mir.proofs.NamesLemmas.{AreFound-append}
use Rattle.gi_mir.proofs.names.append.Goals as goal

pub returns-in-Ok-clause-found : goal.returns-in-Ok-clause-found
returns-in-Ok-clause-found c =
    let old = c.args.list.now.items in
    let name = c.args.name.now in
    let listed : string_bytes c.in_ok-listed.listed ≡ name = search rules in
    let key : string_bytes c.in_ok-key.key ≡ name = search rules in
    let names : texts_of c.push.new.list.items ≡ texts_of old ++ name ∷ [] =
    ap texts_of c.in_ok-push.ensures.ok ∙ map-append string_bytes old (c.in_ok-listed.listed ∷ []) ∙ ap (λ (n : List ℕ). texts_of old ++ n ∷ []) listed in
    let count : c.len-number.result ≡ length old = search rules in
    rw names (AreFound-append (texts_of old) name c.requires.absent c.args.numbers.now c.note.new.numbers _ c.requires.found (rw key at c.in-Ok.ensures.ok) (omega (arith, count, length-map old string_bytes, c.requires.short)))
