use Rattle.omaha_json.proofs.offer_writer.send_addresses.Goals as goal

pub returns-in-None : goal.returns-in-None
returns-in-None g c = rw c.in-None.is c.send_full_address.ensures

pub returns-in-Some : goal.returns-in-Some
returns-in-Some g c = rw c.in-Some.is c.send_both_addresses.ensures
