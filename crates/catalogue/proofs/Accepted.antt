-- What is known of each kind of edit that has no fault.
pub mod Apps
pub mod CohortSettings
pub mod Cohorts
pub mod Diffs
pub mod ReleaseSettings
pub mod Releases
