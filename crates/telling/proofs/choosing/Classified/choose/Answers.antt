use Rattle.std.proofs.Common.{ap, ◌∙◌, rules}
use Rattle.std.specs.Option.{unwrap_or}
use Rattle.hml.specs.declared.line.Modality.TheVariants.{Must}
use Rattle.telling.specs.Choosing.{choice_of}
use Rattle.telling.specs.Unlike.{first_unlike}
use Rattle.telling.proofs.Matching.{choice_is}
use Rattle.telling.proofs.choosing.Classified.choose.Goals as goal

pub returns-in-Some : goal.returns-in-Some
returns-in-Some g c refined ls lt unlike =
    let m = g.G.Graph.means c.args.self.now.graph.now in
    let wide = g.met.G.Graph.wide c.args.self.now.graph.now in
    let names = c.names_at.new.names in
    choice_is m wide c.args.s c.args.t c.map_or-depth.result c.parts_at.result names c.by.result (c.parts_at.ensures m wide refined ls lt) unlike (search rules) (c.names_at.ensures m wide refined)
    (c.by.ensures ∙ ap (λ x. choice_of x (first_unlike m names c.args.t c.args.s)) c.in-Some.ensures)

pub returns-in-None : goal.returns-in-None
returns-in-None g c refined ls lt unlike =
    let m = g.G.Graph.means c.args.self.now.graph.now in
    let wide = g.met.G.Graph.wide c.args.self.now.graph.now in
    let names = c.names_at.new.names in
    choice_is m wide c.args.s c.args.t c.map_or-depth.result c.parts_at.result names c.by-in-None.result (c.parts_at.ensures m wide refined ls lt) unlike (search rules) (c.names_at.ensures m wide refined)
    (c.by-in-None.ensures
    ∙ ap (λ p. record { modality = Must; action = p.0; target = p.1 }) (c.unwrap_or.ensures ∙ ap (λ o. unwrap_or o (0, 0)) c.first_unlike-step.ensures)
    ∙ ap (λ x. choice_of x (first_unlike m names c.args.t c.args.s)) c.in-None.ensures)
