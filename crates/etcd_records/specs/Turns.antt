-- What a post over TCP comes to, and which server is asked after it; this project's profile.
use Rattle.std.specs.Prelude.{ℕ, ◌+◌, ◌≤◌, ◌==◌, Bool, not, true, nat_lt, length, Result, Ok, Err, if◌then◌else◌, ⊤}
use Rattle.update_client.specs.declared.heads.fault.LinkFault.{LinkFault}
use Rattle.update_client.specs.declared.heads.fault.LinkFault.TheVariants as link
use Rattle.update_client.specs.declared.posting.Reply.{Reply}
use Rattle.etcd_records.specs.declared.gateway.Response.{Response}
use Rattle.etcd_records.specs.declared.gateway.GatewayFault.{GatewayFault}
use Rattle.etcd_records.specs.declared.gateway.GatewayFault.TheVariants as fault

-- rule: What came of a post over TCP
-- what a gateway reports of a post: without a connection nothing was sent, and after any other failure it may have been
abbrev pub came_of : Result Reply LinkFault → Result Response GatewayFault
came_of (Ok reply) = Ok (record { status = reply.status; body = reply.body.items })
came_of (Err link.Connect) = Err fault.Unsent
came_of (Err link.Memory) = Err fault.Memory
came_of (Err other) = Err fault.Unanswered

-- the body of a response has at most so many bytes
abbrev pub IsWithin : ℕ → Result Response GatewayFault → Type 0
IsWithin most (Ok response) = length response.body ≤ most
IsWithin most (Err why) = ⊤

-- another server is asked next: unless this one responded with the status 200
abbrev pub goes_on : Result Response GatewayFault → Bool
goes_on (Ok response) = not (response.status == 200)
goes_on (Err why) = true

-- the place after that one among so many, of which the first follows the last
abbrev pub next_place : ℕ → ℕ → ℕ
next_place count place = if nat_lt (place + 1) count then place + 1 else 0

-- rule: Turns of addresses
-- the place of the address that is posted to next
abbrev pub place_after : ℕ → ℕ → Result Response GatewayFault → ℕ
place_after count place came = if goes_on came then next_place count place else place
