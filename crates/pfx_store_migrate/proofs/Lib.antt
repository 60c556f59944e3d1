pub mod Migrations
