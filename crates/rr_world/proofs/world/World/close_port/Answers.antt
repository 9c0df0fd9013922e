use Rattle.std.proofs.Common.{length, ap, refl, arith}
use Rattle.rr_world.specs.Views.{Assembly}
use Rattle.rr_world.specs.declared.step.Action.TheVariants.{ClosePort}
use Rattle.rr_world.proofs.PortTelling.{no_port_closed}
use Rattle.rr_world.proofs.Staying.{refused}
use Rattle.rr_world.proofs.world.World.close_port.Goals as goal

pub returns-in-None : goal.returns-in-None
returns-in-None c =
    let w = c.args.self.now in
    let many = ap length (ap (λ (v : Assembly). v.channels.ports) c.self.view_is) in
    refused (record { who = c.args.who; action = ClosePort c.args.to }) w w refl
    (λ names g e. no_port_closed w names g (record { who = c.args.who; action = ClosePort c.args.to }) c.args.to refl (λ k there. let le = c.in-None.ensures.none refl k there in omega (arith, le, many, c.len.ensures)) e)
