use Rattle.is.proofs.RolesAndChains.FirstMarkedEntries.{issued_iff}
use Rattle.is.proofs.traces.is_issued.Goals as goal

pub returns-in-Some : goal.returns-in-Some
returns-in-Some c = issued_iff c.args.entry.now.issued _ c.args.class c.args.id c.is_packet.result c.in-Some.is c.is_packet.ensures
