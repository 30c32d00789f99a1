-- Whole replies, worked by hand: their records and their bytes.
use Rattle.std.specs.Prelude.{◌≡◌, Bool, List, ℕ, [], ◌∷◌, ◌++◌, length, replicate, Some, None, true, false, codes}
use Rattle.omaha_json.specs.declared.reply.Reply.{Reply}
use Rattle.omaha_json.specs.declared.reply.AppState.{AppState}
use Rattle.omaha_json.specs.declared.reply.AppState.TheVariants as state
use Rattle.omaha_json.specs.declared.reply.CheckReply.TheVariants as check
use Rattle.omaha_json.specs.ReplyWriting.{reply_bytes}

-- the reply of that record has that JSON after the guard
abbrev pub Writes : Reply → List ℕ → Type 0
Writes reply json = reply_bytes reply ≡ codes ")]}'" ++ 10 ∷ json

-- a reply to a request without an app, at the first second of 1970
abbrev pub empty_reply : Reply
empty_reply = record { days = 0; seconds = 0; apps = [] }

-- its string
abbrev pub EmptyReplyWrites : Type 0
EmptyReplyWrites = Writes empty_reply
    (codes "{\"response\":{\"app\":[],"
    ++ codes "\"daystart\":{\"elapsed_days\":0,\"elapsed_seconds\":0},\"protocol\":\"3.1\"}}")

-- it has 95 bytes
abbrev pub EmptyReplyLength : Type 0
EmptyReplyLength = length (reply_bytes empty_reply) ≡ 95

-- the SHA-256 of the 56 bytes `abcdbcdecdefdefgefghfghighijhijkijkljklmklmnlmnomnopnopq`
abbrev pub full_hash : List ℕ
full_hash =
    0x24 ∷ 0x8d ∷ 0x6a ∷ 0x61 ∷ 0xd2 ∷ 0x06 ∷ 0x38 ∷ 0xb8 ∷ 0xe5 ∷ 0xc0 ∷ 0x26 ∷ 0x93
    ∷ 0x0c ∷ 0x3e ∷ 0x60 ∷ 0x39 ∷ 0xa3 ∷ 0x3c ∷ 0xe4 ∷ 0x59 ∷ 0x64 ∷ 0xff ∷ 0x21 ∷ 0x67
    ∷ 0xf6 ∷ 0xec ∷ 0xed ∷ 0xd4 ∷ 0x19 ∷ 0xdb ∷ 0x06 ∷ 0xc1 ∷ []

-- a reply that offers a full package
abbrev pub full_reply : Reply
full_reply = record {
  days = 0;
  seconds = 0;
  apps = record {
    appid = codes "mini";
    state = state.Known (record {
      cohort = codes "stable:0";
      name = codes "stable";
      ping = false;
      events = 0;
      check = Some (check.Offered (record {
        version = codes "2.0";
        fp = codes "1.248d6a61d20638b8e5c026930c3e6039a33ce45964ff2167f6ecedd419db06c1";
        full = record {
          codebase = codes "http://m0.example/p/";
          name = codes "mini-2.0.bin";
          size = 56;
          hash = full_hash;
        };
        diff = None;
      }));
    });
  } ∷ [];
}

-- its string
abbrev pub FullReplyWrites : Type 0
FullReplyWrites = Writes full_reply (
    codes "{\"response\":{\"app\":[{\"appid\":\"mini\","
    ++ codes "\"cohort\":\"stable:0\",\"cohortname\":\"stable\",\"status\":\"ok\","
    ++ codes "\"updatecheck\":{\"manifest\":{\"packages\":{\"package\":[{"
    ++ codes "\"fp\":\"1.248d6a61d20638b8e5c026930c3e6039a33ce45964ff2167f6ecedd419db06c1\","
    ++ codes "\"hash_sha256\":\"248d6a61d20638b8e5c026930c3e6039a33ce45964ff2167f6ecedd419db06c1\","
    ++ codes "\"name\":\"mini-2.0.bin\",\"size\":56}]},\"version\":\"2.0\"},\"status\":\"ok\","
    ++ codes "\"urls\":{\"url\":[{\"codebase\":\"http://m0.example/p/\"}]}}}],"
    ++ codes "\"daystart\":{\"elapsed_days\":0,\"elapsed_seconds\":0},\"protocol\":\"3.1\"}}")

-- a reply that offers a full package and a differential beside it
abbrev pub diff_reply : Reply
diff_reply = record {
  days = 6940;
  seconds = 3661;
  apps = record {
    appid = codes "demo";
    state = state.Known (record {
      cohort = codes "stable:0";
      name = codes "stable";
      ping = false;
      events = 0;
      check = Some (check.Offered (record {
        version = codes "2.0";
        fp = codes "1.2222222222222222222222222222222222222222222222222222222222222222";
        full = record {
          codebase = codes "http://m0.example/p/";
          name = codes "demo-2.0.bin";
          size = 1200;
          hash = replicate 32 0x22;
        };
        diff = Some (record {
          codebase = codes "http://m0.example/p/";
          name = codes "demo-1.0-2.0.bin";
          size = 300;
          hash = replicate 32 0x12;
        });
      }));
    });
  } ∷ [];
}

-- its string
abbrev pub DiffReplyWrites : Type 0
DiffReplyWrites = Writes diff_reply (
    codes "{\"response\":{\"app\":[{\"appid\":\"demo\","
    ++ codes "\"cohort\":\"stable:0\",\"cohortname\":\"stable\",\"status\":\"ok\","
    ++ codes "\"updatecheck\":{\"manifest\":{\"packages\":{\"package\":[{"
    ++ codes "\"fp\":\"1.2222222222222222222222222222222222222222222222222222222222222222\","
    ++ codes "\"hash_sha256\":\"2222222222222222222222222222222222222222222222222222222222222222\","
    ++ codes "\"hashdiff_sha256\":"
    ++ codes "\"1212121212121212121212121212121212121212121212121212121212121212\","
    ++ codes "\"name\":\"demo-2.0.bin\",\"namediff\":\"demo-1.0-2.0.bin\","
    ++ codes "\"size\":1200,\"sizediff\":300}]},"
    ++ codes "\"version\":\"2.0\"},\"status\":\"ok\","
    ++ codes "\"urls\":{\"url\":[{\"codebase\":\"http://m0.example/p/\"},"
    ++ codes "{\"codebasediff\":\"http://m0.example/p/\"}]}}}],"
    ++ codes "\"daystart\":{\"elapsed_days\":6940,\"elapsed_seconds\":3661},\"protocol\":\"3.1\"}}")

-- a known app without an update check
abbrev pub greeted : Bool → ℕ → AppState
greeted ping events = state.Known (record {
  cohort = codes "stable:319";
  name = codes "stable";
  ping = ping;
  events = events;
  check = None;
})

-- a reply to a ping, an app that isn't known, and two events
abbrev pub acknowledging_reply : Reply
acknowledging_reply = record {
  days = 6940;
  seconds = 3661;
  apps =
      record { appid = codes "DEMO"; state = greeted true 0 }
      ∷ record { appid = codes "nope"; state = state.Unknown }
      ∷ record { appid = codes "Demo"; state = greeted false 2 }
      ∷ [];
}

-- its string
abbrev pub AcknowledgingReplyWrites : Type 0
AcknowledgingReplyWrites = Writes acknowledging_reply (
    codes "{\"response\":{\"app\":["
    ++ codes "{\"appid\":\"DEMO\",\"cohort\":\"stable:319\",\"cohortname\":\"stable\","
    ++ codes "\"ping\":{\"status\":\"ok\"},\"status\":\"ok\"},"
    ++ codes "{\"appid\":\"nope\",\"status\":\"error-unknownApplication\"},"
    ++ codes "{\"appid\":\"Demo\",\"cohort\":\"stable:319\",\"cohortname\":\"stable\","
    ++ codes "\"event\":[{\"status\":\"ok\"},{\"status\":\"ok\"}],\"status\":\"ok\"}],"
    ++ codes "\"daystart\":{\"elapsed_days\":6940,\"elapsed_seconds\":3661},\"protocol\":\"3.1\"}}")
