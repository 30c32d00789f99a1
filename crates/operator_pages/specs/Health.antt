-- The pages of a server's health and of its status; this project's profile.
use Rattle.std.specs.Prelude.{ℕ, ◌++◌, Bool, false, true, List, [], codes, decimal, Option, None, Some}
use Rattle.operator_pages.specs.Spending.{mirror_lines}
use Rattle.operator_pages.specs.declared.shown.Shown.{Shown}
use Rattle.tallies.specs.Totals.{all_replies}
use Rattle.operator_pages.specs.declared.spending.Place.TheVariants as place

-- what a server says that was asked to end
abbrev pub stopping_line : List ℕ
stopping_line = codes "stopping\n"

-- rule: Health of a server
-- the number of the published edition, and that the history is unreachable, by the time since when it is; unless the server
-- was asked to end
abbrev pub health_string : ℕ → Option ℕ → Bool → List ℕ
health_string edition lost true = stopping_line
health_string edition None false = codes "edition " ++ decimal edition ++ codes "\n"
health_string edition (Some since) false = codes "edition " ++ decimal edition ++ codes "\nhistory unreachable\n"

-- that number, and when the server started
abbrev pub status_head : ℕ → ℕ → List ℕ
status_head edition started =
    codes "edition " ++ decimal edition ++ codes "\nstarted " ++ decimal started ++ codes "\n"

-- the clients' address, and how many replies clients got
abbrev pub status_traffic : List ℕ → ℕ → List ℕ
status_traffic address replies =
    codes "address " ++ address ++ codes "\nreplies " ++ decimal replies ++ codes "\n"

-- since when the history is unreachable, if it is
abbrev pub reach_line : Option ℕ → List ℕ
reach_line None = []
reach_line (Some since) = codes "history unreachable since " ++ decimal since ++ codes "\n"

-- rule: Status of a server
-- the same, and a line for each mirror
abbrev pub status_string : Shown → List ℕ
status_string shown =
    status_head shown.edition shown.counts.started
    ++ (status_traffic shown.address.now (all_replies shown.totals.now.replies)
    ++ (reach_line shown.counts.lost
    ++ mirror_lines place.Status shown.mirrors.now shown.granted.now))
